use Rattle.std.proofs.Common.{length}
use Rattle.wt_opening.proofs.opened.+push_opened.Given as goal

abbrev pub decreases-push_opened : goal.decreases-push_opened
decreases-push_opened l = length l.pieces.now
