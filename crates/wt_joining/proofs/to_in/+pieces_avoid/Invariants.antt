use Rattle.std.proofs.Common.{length}
use Rattle.wt_joining.proofs.to_in.+pieces_avoid.Given as goal

abbrev pub decreases-pieces_avoid : goal.decreases-pieces_avoid
decreases-pieces_avoid l = length l.pieces.now
