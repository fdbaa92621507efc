use Rattle.std.proofs.Common.{◌≡◌, ◌++◌, take, map}
use Rattle.wt_symbol.specs.Sides.{pair_of}
use Rattle.wt_board.specs.Rules.{rule_of}
use Rattle.wt_board.proofs.rules.push_rules.Given as goal

abbrev pub invariant-loop-set : goal.invariant-loop-set
invariant-loop-set l = map rule_of l.rules.items ≡ map rule_of l.fn.rules.items ++ map (λ s. (pair_of l.pair, s)) (take l.set-index l.sets)
