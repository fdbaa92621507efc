use Rattle.std.proofs.Common.{length}
use Rattle.wt_form.proofs.weight.+sum_of_places.Given as goal

abbrev pub decreases-sum_of_places : goal.decreases-sum_of_places
decreases-sum_of_places l = length l.pieces.now
