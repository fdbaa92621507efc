use Rattle.std.proofs.Common.{length}
use Rattle.wt_facts.proofs.facts.+push_not_nulls.Given as goal

abbrev pub decreases-push_not_nulls : goal.decreases-push_not_nulls
decreases-push_not_nulls l = length l.asked.now
