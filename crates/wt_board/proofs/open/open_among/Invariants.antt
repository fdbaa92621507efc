use Rattle.std.proofs.Common.{take, None}
use Rattle.wt_board.specs.Covering.{OpenAmong}
use Rattle.wt_board.specs.Viewing.{lore_with}
use Rattle.wt_board.proofs.open.open_among.Given as goal

abbrev pub invariant-loop-n : goal.invariant-loop-n
invariant-loop-n l = OpenAmong (lore_with l.view.cores.now l.view.refused.now l.view.rest.now l.view.pair) l.view.out.now l.view.pair (take l.n-index l.nodes) None
