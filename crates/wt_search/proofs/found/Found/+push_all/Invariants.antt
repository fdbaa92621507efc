use Rattle.std.proofs.Common.{length}
use Rattle.wt_search.proofs.found.Found.+push_all.Given as goal

abbrev pub decreases-push_all : goal.decreases-push_all
decreases-push_all l = length l.forms.now
