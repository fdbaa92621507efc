use Rattle.std.proofs.Common.{length}
use Rattle.wt_translate.proofs.pieces.Columns.+of.Given as goal

abbrev pub decreases-of : goal.decreases-of
decreases-of l = length l.head.now
