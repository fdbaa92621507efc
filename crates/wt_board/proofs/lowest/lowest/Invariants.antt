use Rattle.std.proofs.Common.{◌≡◌, false}
use Rattle.wt_cores.specs.Cores.{Within}
use Rattle.wt_board.specs.Covering.{knows}
use Rattle.wt_board.specs.Viewing.{lore_with}
use Rattle.wt_board.proofs.lowest.lowest.Given as goal

abbrev pub invariant-down : goal.invariant-down
invariant-down l = record {
  unknown : knows (lore_with l.view.cores.now l.view.refused.now l.view.rest.now l.view.pair) l.low ≡ false;
  within : Within l.low l.fn.set;
}

abbrev pub decreases-down : goal.decreases-down
decreases-down l = l.low.0
