use Rattle.std.proofs.Common.{length}
use Rattle.wt_translate.proofs.pieces.+push_risen.Given as goal

abbrev pub decreases-push_risen : goal.decreases-push_risen
decreases-push_risen l = length l.pieces.now
