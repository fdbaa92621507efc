use Rattle.std.proofs.Common.{length}
use Rattle.wt_places.proofs.lists.+ranges_from.Given as goal

abbrev pub decreases-ranges_from : goal.decreases-ranges_from
decreases-ranges_from l = length l.refs.now
