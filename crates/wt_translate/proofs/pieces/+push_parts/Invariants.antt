use Rattle.std.proofs.Common.{length}
use Rattle.wt_translate.proofs.pieces.+push_parts.Given as goal

abbrev pub decreases-push_parts : goal.decreases-push_parts
decreases-push_parts l = length l.head.now
