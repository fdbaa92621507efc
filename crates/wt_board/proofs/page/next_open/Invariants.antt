use Rattle.std.proofs.Common.{◌≤◌, ◌+◌, ◌*◌, length}
use Rattle.wt_board.specs.Covering.{Covers, EachWithin, turns_left}
use Rattle.wt_board.specs.Viewing.{lore_with}
use Rattle.wt_board.proofs.page.next_open.Given as goal

abbrev pub invariant-nodes : goal.invariant-nodes
invariant-nodes l = record {
  covers : Covers (lore_with l.view.cores.now l.view.refused.now l.view.rest.now l.view.pair) l.view.all l.nodes.items;
  within : EachWithin l.view.all l.nodes.items;
  left : l.left ≤ length l.nodes.items;
}

abbrev pub decreases-nodes : goal.decreases-nodes
decreases-nodes l = 2 * turns_left l.nodes.items + l.left
