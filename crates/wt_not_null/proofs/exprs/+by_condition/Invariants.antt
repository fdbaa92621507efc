use Rattle.std.proofs.Common.{length}
use Rattle.wt_not_null.proofs.exprs.+by_condition.Given as goal

abbrev pub decreases-by_condition : goal.decreases-by_condition
decreases-by_condition l = length l.conds.now
