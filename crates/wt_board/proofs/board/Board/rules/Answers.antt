use Rattle.std.proofs.Common.{sym, subst}
use Rattle.wt_board.specs.Boards.{BoardTree}
use Rattle.wt_board.specs.Lots.{lot_tree}
use Rattle.wt_board.specs.Machine.{Settles}
use Rattle.wt_board.proofs.board.Board.rules.Goals as goal

pub rules_of_log-requires-clause-settles : goal.rules_of_log-requires-clause-settles
rules_of_log-requires-clause-settles c =
    let S : BoardTree → Type 0 = λ b. Settles (lot_tree b.lot) b.state.log in
    let settles : S (record { lot = c.self.inside.lot; state = record { next = c.self.inside.next; out = c.self.inside.out.items; log = c.self.inside.log.items } }) = subst S (sym c.self.view_is) c.requires.settles in
    subst (λ log. Settles (lot_tree c.self.inside.lot) log) (sym c.deref.ensures.value) settles
