use Rattle.std.proofs.Common.{sym, subst, arith}
use Rattle.wt_board.specs.Boards.{BoardTree}
use Rattle.wt_board.specs.Lots.{lot_tree}
use Rattle.wt_board.specs.Machine.{VerdictStands, LogStands, entry_of}
use Rattle.wt_board.specs.Keeping.{Keeps}
use Rattle.wt_board.proofs.Runs.{log_more}
use Rattle.wt_board.proofs.Held.{keeps_logged}
use Rattle.wt_board.proofs.board.Board.post.Goals as goal

pub invariant_of-self-2 : goal.invariant_of-self-2
invariant_of-self-2 c =
    let lot = lot_tree c.self.inside.lot in
    let P : BoardTree → Type 0 = λ b. VerdictStands (lot_tree b.lot) c.args.ticket.pair c.args.ticket.set c.args.verdict in
    let true_of = subst P (sym c.self.view_is) c.requires.verdict in (
      c.self.invariant.0,
      subst (LogStands lot) (sym c.push_reserved.ensures.items) (log_more lot c.self.inside.log.items c.args.ticket c.args.verdict c.self.invariant.1 true_of),
      subst (λ log. Keeps lot log c.self.inside.pages.items) (sym c.push_reserved.ensures.items) (keeps_logged lot c.self.inside.log.items (entry_of c.args.ticket c.args.verdict) c.self.inside.pages.items c.self.invariant.2),
      omega (arith, c.self.invariant.3, c.push_reserved.ensures.len, c.push_reserved.ensures.capacity, c.in-Some.ensures.fewer),
      c.self.invariant.4,
    )
