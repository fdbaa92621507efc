use Rattle.std.proofs.Common.{length}
use Rattle.wt_congruent.proofs.exprs.+same_pieces.Given as goal

abbrev pub decreases-same_pieces : goal.decreases-same_pieces
decreases-same_pieces l = length l.xs.now
