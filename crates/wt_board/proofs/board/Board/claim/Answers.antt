use Rattle.std.proofs.Common.{ℕ, List, inr, subst, ◌∙◌}
use Rattle.std.specs.Prelude.{None}
use Rattle.wt_constraint.specs.declared.set.AtomSet.{AtomSet}
use Rattle.wt_board.specs.declared.words.Ticket.{Ticket}
use Rattle.wt_board.specs.declared.words.Entry.{Entry}
use Rattle.wt_board.specs.Boards.{BoardTree, NonePending}
use Rattle.wt_board.specs.Lots.{lot_tree}
use Rattle.wt_board.specs.Machine.{Pending}
use Rattle.wt_board.specs.Keeping.{Chosen, at_work}
use Rattle.wt_board.proofs.Held.{pending_next}
use Rattle.wt_board.proofs.board.Board.claim.Goals as goal

pub returns-in-None : goal.returns-in-None
returns-in-None c =
    let now = c.self.inside in
    let told : Chosen (lot_tree c.self.inside.lot) (at_work c.deref.result.now c.deref-2.result.now) None = rw c.in-None.is at c.in_ok-pair.ensures.chosen in
    let C : List Ticket × List Entry → Type 0 = λ q. (p : ℕ) (s : AtomSet) → Pending (lot_tree c.self.inside.lot) (at_work q.0 q.1) p s → ⊥ in
    let none : C (c.self.inside.out.items, c.self.inside.log.items) = subst C (λ i. ((c.deref.ensures.value ∙ c.reserve-2.ensures.items) i, (c.deref-2.ensures.value ∙ c.reserve.ensures.items) i)) told in
    let P : BoardTree → Type 0 = λ b. NonePending (lot_tree b.lot) b.state in (
      (λ i. record { lot = c.self.inside.lot; state = record { next = c.self.inside.next; out = c.reserve-2.ensures.items i; log = c.reserve.ensures.items i } }) ∙ c.self.view_is,
      inr (subst P c.self.view_is (λ p s w. none p s (pending_next (lot_tree now.lot) now.next 0 now.out.items now.log.items p s w))),
    )
