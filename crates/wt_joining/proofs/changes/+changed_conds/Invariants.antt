use Rattle.std.proofs.Common.{length}
use Rattle.wt_joining.proofs.changes.+changed_conds.Given as goal

abbrev pub decreases-changed_conds : goal.decreases-changed_conds
decreases-changed_conds l = length l.refs.now
