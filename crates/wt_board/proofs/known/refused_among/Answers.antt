use Rattle.std.proofs.Common.{sym, ◌∙◌}
use Rattle.wt_board.proofs.Knowing.{refuses_at}
use Rattle.wt_board.proofs.known.refused_among.Goals as goal

pub returns-then-lies_in : goal.returns-then-lies_in
returns-then-lies_in c = refuses_at c.args.refused.now c.loop-r.r-index (record { 0 = 0 }) c.args.set c.loop-r-test.true (sym c.lies_in.ensures ∙ c.if-lies_in.true)
