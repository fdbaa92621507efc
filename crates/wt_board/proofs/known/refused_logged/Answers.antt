use Rattle.std.proofs.Common.{sym, ◌∙◌}
use Rattle.wt_board.proofs.Knowing.{refuses_there}
use Rattle.wt_board.proofs.known.refused_logged.Goals as goal

pub returns-then-is_some : goal.returns-then-is_some
returns-then-is_some c = refuses_there c.args.pair c.args.entries.now c.loop-e.e-index _ c.args.set c.refused_in-refused.result c.loop-e-test.true (sym c.is_some.ensures ∙ c.if-is_some.true) c.refused_in-refused.ensures
