use Rattle.std.proofs.Common.{length}
use Rattle.wt_drops.proofs.truths.+same_as_some.Given as goal

abbrev pub decreases-same_as_some : goal.decreases-same_as_some
decreases-same_as_some l = length l.before.now
