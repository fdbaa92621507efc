use Rattle.std.proofs.Common.{◌+◌, ◌*◌}
use Rattle.wt_board.specs.Covering.{turns}
use Rattle.wt_board.proofs.open.+open.Given as goal

abbrev pub decreases-open_in : goal.decreases-open_in
decreases-open_in l = 3 * turns l.node + 2

abbrev pub decreases-open_around : goal.decreases-open_around
decreases-open_around l = 3 * turns l.node + 1

abbrev pub decreases-open_halves : goal.decreases-open_halves
decreases-open_halves l = 3 * turns l.node
