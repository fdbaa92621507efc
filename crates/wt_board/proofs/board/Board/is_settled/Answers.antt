use Rattle.std.proofs.Common.{◌≡◌, ℕ, List, [], IsTrue, ◌↔◌, rules, nat_eq, ap, ◌∙◌, subst}
use Rattle.wt_constraint.specs.declared.set.AtomSet.{AtomSet}
use Rattle.wt_board.specs.declared.words.Ticket.{Ticket}
use Rattle.wt_board.specs.declared.words.Entry.{Entry}
use Rattle.wt_board.specs.Boards.{BoardTree}
use Rattle.wt_board.specs.Lots.{lot_tree}
use Rattle.wt_board.specs.Machine.{Pending, Settled}
use Rattle.wt_board.specs.Keeping.{at_work}
use Rattle.wt_board.proofs.Held.{pending_next, nothing_out}
use Rattle.wt_board.proofs.board.Board.is_settled.Goals as goal

pub returns-then-is_empty : goal.returns-then-is_empty
returns-then-is_empty c =
    let now = c.self.inside in
    let Q : BoardTree → Type 0 = λ b. (IsTrue c.are_calm.result → Settled (lot_tree b.lot) b.state) × (Settled (lot_tree b.lot) b.state → IsTrue c.are_calm.result) in
    let C : List Ticket × List Entry → Type 0 = λ q. IsTrue c.are_calm.result ↔ ((p : ℕ) (s : AtomSet) → Pending (lot_tree c.self.inside.lot) (at_work q.0 q.1) p s → ⊥) in
    let calm : C (c.self.inside.out.items, c.self.inside.log.items) = subst C (λ i. (c.deref-then-is_empty.ensures.value i, c.deref-then-is_empty-2.ensures.value i)) c.are_calm.ensures in
    let none : c.self.inside.out.items ≡ [] = nothing_out c.self.inside.out.items c.is_empty.result (c.is_empty.ensures ∙ ap (λ n. nat_eq n 0) (search rules)) c.if-is_empty.true in
    subst Q c.self.view_is (
      λ yes. record { none_out = none; none_pending = λ p s w. calm.0 yes p s (pending_next (lot_tree now.lot) now.next 0 now.out.items now.log.items p s w) },
      λ st. calm.1 (λ p s w. st.none_pending p s (pending_next (lot_tree now.lot) 0 now.next now.out.items now.log.items p s w)),
    )
