use Rattle.std.proofs.Common.{length}
use Rattle.wt_determined.proofs.alone.+is_some_key_held.Given as goal

abbrev pub decreases-is_some_key_held : goal.decreases-is_some_key_held
decreases-is_some_key_held l = length l.keys.now
