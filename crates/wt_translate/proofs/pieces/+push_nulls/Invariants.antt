use Rattle.std.proofs.Common.{length}
use Rattle.wt_translate.proofs.pieces.+push_nulls.Given as goal

abbrev pub decreases-push_nulls : goal.decreases-push_nulls
decreases-push_nulls l = length l.head.now
