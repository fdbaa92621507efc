use Rattle.std.proofs.Common.{length}
use Rattle.wt_congruent.proofs.exprs.+same_head.Given as goal

abbrev pub decreases-same_head : goal.decreases-same_head
decreases-same_head l = length l.ps.now
