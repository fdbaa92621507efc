use Rattle.std.proofs.Common.{length}
use Rattle.wt_facts.proofs.facts.+push_uniques.Given as goal

abbrev pub decreases-push_uniques : goal.decreases-push_uniques
decreases-push_uniques l = length l.asked.now
