use Rattle.std.proofs.Common.{length}
use Rattle.wt_congruent.proofs.prints.+pieces_print.Given as goal

abbrev pub decreases-pieces_print : goal.decreases-pieces_print
decreases-pieces_print l = length l.xs.now
