use Rattle.std.proofs.Common.{length}
use Rattle.wt_determined.proofs.pieces.+has_list_over.Given as goal

abbrev pub decreases-has_list_over : goal.decreases-has_list_over
decreases-has_list_over l = length l.pieces.now
