use Rattle.std.proofs.Common.{length}
use Rattle.wt_drops.proofs.truths.+some_joins.Given as goal

abbrev pub decreases-some_joins : goal.decreases-some_joins
decreases-some_joins l = length l.conds.now
