use Rattle.std.proofs.Common.{length}
use Rattle.wt_open.proofs.parts.+list_then.Given as goal

abbrev pub decreases-list_then : goal.decreases-list_then
decreases-list_then l = length l.refs.now
