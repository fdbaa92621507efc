use Rattle.std.proofs.Common.{refl}
use Rattle.wt_board.proofs.Telling.{near_more}
use Rattle.wt_board.proofs.rules.near_cores.Goals as goal

pub loop-e-preserved : goal.loop-e-preserved
loop-e-preserved c = near_more c.args.all c.args.depth c.args.pair c.args.log.now c.loop-e.e-index _ _ c.loop-e.cores.items c.add_core.new.cores.items c.loop-e-test.true refl c.loop-e.invariant c.in_ok-add_core.ensures.gains c.in_ok-add_core.ensures.ascending
