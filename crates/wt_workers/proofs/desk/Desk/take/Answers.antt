use Rattle.std.proofs.Common.{◌≡◌, ℕ, true, rules, sym, subst}
use Rattle.std.specs.Prelude.{Some, slice_get}
use Rattle.wt_pair.specs.declared.lot.Lot.{Lot}
use Rattle.wt_symbol.specs.Sides.{pair_of}
use Rattle.wt_cores.specs.Cores.{Within, all_atoms}
use Rattle.wt_board.specs.declared.words.Ticket.{Ticket}
use Rattle.wt_board.specs.Lots.{lot_tree}
use Rattle.wt_board.specs.Machine.{LogStands}
use Rattle.wt_board.specs.Boards.{BoardTree, AreNeeded}
use Rattle.wt_workers.specs.Desks.{DeskTree, DeskClaims}
use Rattle.wt_workers.specs.Tasks.{AreNeededBy}
use Rattle.wt_workers.proofs.Tasks.{pending_within, needed_by}
use Rattle.wt_workers.proofs.desk.Desk.take.Goals as goal

pub returns : goal.returns
returns g c =
    let pair = pair_of c.args.pair.now in
    let t = c.in-Some.ticket in
    let board = c.self.inside.board in
    let old : DeskTree = record { board = c.self.inside.board; events = c.self.inside.events.items; amount = c.self.inside.share.amount } in
    let says : DeskClaims old c.claim.new.self c.args.worker (Some c.in-Some.ticket) = subst (λ d. DeskClaims d c.claim.new.self c.args.worker (Some c.in-Some.ticket)) (sym c.self.view_is) (rw c.in-Some.is at c.in_ok-ticket.ensures) in
    let of_it : c.is_of.result ≡ true = search rules in
    let L : Lot → Type 0 = λ l. (slice_get (lot_tree l).pairs 0 ≡ Some (pair_of c.args.pair.now)) × (l.bounds.steps ≡ c.args.steps) in
    let at : L c.self.inside.board.lot = subst L c.lot.ensures (c.is_of.ensures.0 of_it) in
    let within = pending_within (lot_tree board.lot) pair c.self.invariant.0.one at.0 board.state t.pair t.set says.1.1 in
    let B : BoardTree → Type 0 = λ b. LogStands (lot_tree b.lot) b.state.log × AreNeeded c.in-Some.ticket.pair b.state.log c.in-Some.ticket.set c.task.result.needed in
    let told = subst B says.2.board (c.task.ensures.stands, c.task.ensures.needed) in
    let needed : AreNeeded 0 board.state.log t.set c.task.result.needed = subst (λ n. AreNeeded n c.self.inside.board.state.log c.in-Some.ticket.set c.task.result.needed) within.0 told.1 in
    let N : Ticket × ℕ → Type 0 = λ q. Within q.0.set (all_atoms (pair_of c.args.pair.now)) × AreNeededBy (pair_of c.args.pair.now) q.1 q.0.set c.task.result.needed in
    let both : N (c.task.result.ticket, c.args.steps) =
    subst N (λ i. (sym c.task.ensures.ticket i, at.1 i)) (within.1, needed_by (lot_tree board.lot) pair c.self.invariant.0.one at.0 board.state.log told.0 t.set c.task.result.needed needed) in
    record { within = both.0; needed = both.1 }
