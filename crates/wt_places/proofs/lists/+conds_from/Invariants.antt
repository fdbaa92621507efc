use Rattle.std.proofs.Common.{length}
use Rattle.wt_places.proofs.lists.+conds_from.Given as goal

abbrev pub decreases-conds_from : goal.decreases-conds_from
decreases-conds_from l = length l.refs.now
