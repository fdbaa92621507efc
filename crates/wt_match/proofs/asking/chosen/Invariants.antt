use Rattle.std.proofs.Common.{◌≡◌, ◌++◌, drop}
use Rattle.wt_rule.specs.Texts as texts
use Rattle.wt_match.proofs.asking.chosen.Given as goal

abbrev pub invariant-loop-k : goal.invariant-loop-k
invariant-loop-k l = l.kept.items ++ texts.chosen l.set l.k (drop l.k l.atoms) ≡ texts.chosen l.set 0 l.atoms
