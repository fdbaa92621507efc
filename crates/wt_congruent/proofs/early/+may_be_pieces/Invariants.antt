use Rattle.std.proofs.Common.{length}
use Rattle.wt_congruent.proofs.early.+may_be_pieces.Given as goal

abbrev pub decreases-may_be_pieces : goal.decreases-may_be_pieces
decreases-may_be_pieces l = length l.xs.now
