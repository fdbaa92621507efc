use Rattle.std.proofs.Common.{sym, ◌∙◌}
use Rattle.wt_board.proofs.Knowing.{refuses_left, refuses_right, refuses_none}
use Rattle.wt_board.proofs.known.refused_around.Goals as goal

pub returns-then-is_some : goal.returns-then-is_some
returns-then-is_some c = refuses_left _ _ c.args.set c.refused_among-refused.result (sym c.is_some.ensures ∙ c.if-is_some.true) c.refused_among-refused.ensures

pub returns : goal.returns
returns c = refuses_right _ _ c.args.set _ (refuses_none _ c.args.set c.refused_among-refused.result (sym c.is_some.ensures ∙ c.if-is_some.false) c.refused_among-refused.ensures) c.refused_logged.ensures
