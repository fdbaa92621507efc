use Rattle.std.proofs.Common.{length}
use Rattle.wt_opening.proofs.opened.+cut_part.Given as goal

abbrev pub decreases-cut_part : goal.decreases-cut_part
decreases-cut_part l = length l.head.now
