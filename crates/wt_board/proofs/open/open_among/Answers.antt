use Rattle.std.proofs.Common.{sym, ◌∙◌}
use Rattle.wt_board.proofs.Covered.{within_at}
use Rattle.wt_board.proofs.Opening.{among_some, among_none}
use Rattle.wt_board.proofs.open.open_among.Goals as goal

pub open_in-found-requires : goal.open_in-found-requires
open_in-found-requires c = record { within = (within_at c.args.view.now.all c.args.nodes.now c.loop-n.n-index _ c.loop-n-test.true c.requires.within).0 }

pub returns-then-is_some : goal.returns-then-is_some
returns-then-is_some c = among_some _ _ _ c.args.nodes.now c.loop-n.n-index _ c.open_in-found.result c.loop-n-test.true (sym c.is_some.ensures ∙ c.if-is_some.true) c.open_in-found.ensures

pub loop-n-preserved : goal.loop-n-preserved
loop-n-preserved c = among_none _ _ _ c.args.nodes.now c.loop-n.n-index _ c.open_in-found.result c.loop-n-test.true (sym c.is_some.ensures ∙ c.if-is_some.false) c.open_in-found.ensures c.loop-n.invariant
