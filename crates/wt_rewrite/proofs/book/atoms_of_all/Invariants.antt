use Rattle.std.proofs.Common.{◌≡◌, take, map}
use Rattle.wt_symbol.specs.Sides.{pair_of}
use Rattle.wt_rule.specs.declared.Rule.{Rule}
use Rattle.wt_match.specs.Asking.{asked}
use Rattle.wt_rewrite.proofs.book.atoms_of_all.Given as goal

abbrev pub invariant-loop-rule : goal.invariant-loop-rule
invariant-loop-rule l = l.atoms ≡ map (λ (r : Rule). asked (pair_of r.pair) r.set) (take l.rule-index l.rule-items)
