use Rattle.std.proofs.Common.{◌<◌, take}
use Rattle.wt_bag.specs.Bags.{Each}
use Rattle.wt_cores.proofs.ordered.count_below.Given as goal

abbrev pub invariant-loop-at : goal.invariant-loop-at
invariant-loop-at l = Each (λ s. s.0 < l.set.0) (take l.at l.sets)
