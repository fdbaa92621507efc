use Rattle.std.proofs.Common.{length}
use Rattle.wt_determined.proofs.linked.+some_links.Given as goal

abbrev pub decreases-some_links : goal.decreases-some_links
decreases-some_links l = length l.conds.now
