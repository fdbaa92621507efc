use Rattle.std.proofs.Common.{◌+◌, ◌*◌}
use Rattle.wt_place.proofs.placing.+gather.Given as goal

abbrev pub decreases-gather : goal.decreases-gather
decreases-gather l = 2 * goal.size-gather l

abbrev pub decreases-into_placed : goal.decreases-into_placed
decreases-into_placed l = 1 + 2 * goal.size-into_placed l
