use Rattle.std.proofs.Common.{◌≡◌}
use Rattle.wt_known.specs.Sets.{is_whole}
use Rattle.wt_unique.proofs.sets.has_all_below.Given as goal

abbrev pub invariant-bound : goal.invariant-bound
invariant-bound l = is_whole l.bound l.set ≡ is_whole l.fn.bound l.set

abbrev pub decreases-bound : goal.decreases-bound
decreases-bound l = l.bound
