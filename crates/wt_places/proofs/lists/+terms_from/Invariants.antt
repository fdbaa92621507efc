use Rattle.std.proofs.Common.{length}
use Rattle.wt_places.proofs.lists.+terms_from.Given as goal

abbrev pub decreases-terms_from : goal.decreases-terms_from
decreases-terms_from l = length l.refs.now
