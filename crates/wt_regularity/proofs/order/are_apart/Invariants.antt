use Rattle.std.proofs.Common.{◌≡◌, length}
use Rattle.wt_regularity.specs.Order as spec
use Rattle.wt_regularity.proofs.order.are_apart.Given as goal

abbrev pub invariant-cols : goal.invariant-cols
invariant-cols l = spec.are_apart l.cols ≡ spec.are_apart l.initial.cols

abbrev pub decreases-cols : goal.decreases-cols
decreases-cols l = length l.cols
