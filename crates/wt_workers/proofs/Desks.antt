-- A desk after one event more.
use Rattle.std.proofs.Common.{◌≡◌, ◌≢◌, Bool, true, false, ℕ, ◌+◌, refl, sym, ap, ◌∙◌, arith, List, [], ◌∷◌, ◌++◌, length, length-append}
use Rattle.std.specs.Prelude.{Some, None, ◌==◌, if◌then◌else◌}
use Rattle.wt_board.specs.declared.words.Ticket.{Ticket}
use Rattle.wt_board.specs.declared.words.Verdict.{Verdict}
use Rattle.wt_board.specs.declared.words.Event.{Event}
use Rattle.wt_board.specs.declared.words.Event.TheVariants.{Claimed, Posted, GivenBack}
use Rattle.wt_board.specs.Lots.{lot_tree}
use Rattle.wt_board.specs.Machine.{State, start, after, replay, find_ticket, end_claim, entry_of}
use Rattle.wt_board.specs.Boards.{BoardTree, board_after}
use Rattle.wt_workers.specs.Desks.{DeskTree, IsDesk, OneEvent}

pub replay_more : (st : State) (es : List Event) (e : Event) → replay st (es ++ e ∷ []) ≡ after (replay st es) e
replay_more st [] e = refl
replay_more st (x ∷ xs) e = replay_more (after st x) xs e

pub kept_one : (old new : DeskTree) (e : Event) (more : ℕ) → IsDesk old → OneEvent old new e more → length (after old.board.state e).log ≡ length old.board.state.log + more → IsDesk new
kept_one old new e more h k l = record {
  one = ap (λ (b : BoardTree). length (lot_tree b.lot).pairs) k.board ∙ h.one;
  replays = ap (λ (b : BoardTree). b.state) k.board ∙ ap (λ (s : State). after s e) h.replays ∙ sym (replay_more start old.events e) ∙ ap (λ (es : List Event). replay start es) (sym k.events);
  counted = omega (arith, k.amount, h.counted, l, ap (λ (b : BoardTree). length b.state.log) k.board);
}

pub out_claimed : (old new : BoardTree) (t : Ticket) → new ≡ board_after old (Claimed t) → length new.state.out ≡ length old.state.out + 1
out_claimed old new t e = ap (λ (b : BoardTree). length b.state.out) e ∙ length-append old.state.out (t ∷ [])

one_less : (n : ℕ) (ts : List Ticket) → find_ticket n ts ≢ None → length (end_claim n ts) + 1 ≡ length ts
one_less n [] h = absurd (h refl)
one_less n (t ∷ ts) h = by (t.number == n) refl (one_less n ts)
  where
    by : (b : Bool) → (t.number == n) ≡ b → (find_ticket n ts ≢ None → length (end_claim n ts) + 1 ≡ length ts) → length (end_claim n (t ∷ ts)) + 1 ≡ length (t ∷ ts)
    by true e again = omega (arith, ap (λ (b : Bool). length (if b then ts else t ∷ end_claim n ts)) e)
    by false e again =
        let k = again (λ x. h (ap (λ (b : Bool). if b then Some t else find_ticket n ts) e ∙ x)) in
        omega (arith, ap (λ (b : Bool). length (if b then ts else t ∷ end_claim n ts)) e, k)

pub out_posted : (old new : BoardTree) (t : Ticket) (v : Verdict) → find_ticket t.number old.state.out ≢ None → new ≡ board_after old (Posted t v) → length new.state.out + 1 ≡ length old.state.out
out_posted old new t v h e = omega (arith, ap (λ (b : BoardTree). length b.state.out) e, one_less t.number old.state.out h)

pub out_given_back : (old new : BoardTree) (t : Ticket) → find_ticket t.number old.state.out ≢ None → new ≡ board_after old (GivenBack t) → length new.state.out + 1 ≡ length old.state.out
out_given_back old new t h e = omega (arith, ap (λ (b : BoardTree). length b.state.out) e, one_less t.number old.state.out h)

pub log_posted : (old : BoardTree) (t : Ticket) (v : Verdict) → length (after old.state (Posted t v)).log ≡ length old.state.log + 1
log_posted old t v = length-append old.state.log (entry_of t v ∷ [])
