use Rattle.std.proofs.Common.{length}
use Rattle.wt_joining.proofs.ends.+push_ends.Given as goal

abbrev pub decreases-push_ends : goal.decreases-push_ends
decreases-push_ends l = length l.refs.now
