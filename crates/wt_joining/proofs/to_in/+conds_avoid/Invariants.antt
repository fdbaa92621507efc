use Rattle.std.proofs.Common.{length}
use Rattle.wt_joining.proofs.to_in.+conds_avoid.Given as goal

abbrev pub decreases-conds_avoid : goal.decreases-conds_avoid
decreases-conds_avoid l = length l.refs.now
