use Rattle.std.proofs.Common.{length}
use Rattle.wt_opening.proofs.opened.+can_open_pieces.Given as goal

abbrev pub decreases-can_open_pieces : goal.decreases-can_open_pieces
decreases-can_open_pieces l = length l.pieces.now
