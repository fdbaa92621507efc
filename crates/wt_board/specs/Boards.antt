-- What the calls of a board say.
use Rattle.std.specs.Prelude.{ℕ, ◌≡◌, ◌≢◌, ◌<◌, ◌^◌, ◌⊎◌, true, List, [], ◌∷◌, Option, Some, None}
use Rattle.wt_constraint.specs.declared.set.AtomSet.{AtomSet}
use Rattle.wt_constraint.specs.Sets.{HasAtom}
use Rattle.wt_form.specs.Relaxed.{LeavesOut}
use Rattle.wt_board.specs.declared.words.Ticket.{Ticket}
use Rattle.wt_board.specs.declared.words.Entry.{Entry}
use Rattle.wt_board.specs.declared.words.Event.{Event}
use Rattle.wt_board.specs.declared.words.Event.TheVariants.{Claimed}
use Rattle.wt_board.specs.declared.words.NotClaimed.{NotClaimed}
use Rattle.wt_pair.specs.declared.lot.Lot.{Lot}
use Rattle.wt_board.specs.Lots.{LotTree, lot_tree}
use Rattle.wt_board.specs.Knowledge.{refused_of, is_refused}
use Rattle.wt_board.specs.Machine.{State, Pending, MayBe, find_ticket, after}

-- a board: its lot and its state
pub record BoardTree : Type 0 where
  pub lot : Lot
  pub state : State

abbrev pub board_after : BoardTree → Event → BoardTree
board_after b e = record { lot = b.lot; state = after b.state e }

abbrev pub NonePending : LotTree → State → Type 0
NonePending lot st = (p : ℕ) (s : AtomSet) → Pending lot st p s → ⊥

-- a claim hands out a ticket for the worker, which is one event; or nothing is pending or no number is left, and the board is as before
abbrev pub Claims : BoardTree → BoardTree → ℕ → Option Ticket → Type 0
Claims old new worker (Some t) = (t.worker ≡ worker) × (old.state.next < 2 ^ 63) × MayBe (lot_tree old.lot) old.state (Claimed t) × (new ≡ board_after old (Claimed t))
Claims old new worker None = (new ≡ old) × ((old.state.next ≡ 2 ^ 63) ⊎ NonePending (lot_tree old.lot) old.state)

-- a claim of this number ended, by one event
abbrev pub EndsClaim : BoardTree → BoardTree → ℕ → Event → Type 0
EndsClaim old new number e = (find_ticket number old.state.out ≢ None) × (new ≡ board_after old e)

-- none of this number was out, and the board is as before
abbrev pub EndsNone : BoardTree → BoardTree → ℕ → NotClaimed → Type 0
EndsNone old new number refusal = (refusal.number ≡ number) × (find_ticket number old.state.out ≡ None) × (new ≡ old)

-- the first claim that is out
abbrev pub first_out : List Ticket → Option Ticket
first_out [] = None
first_out (t ∷ ts) = Some t

-- without one of these atoms the set is known refused
abbrev pub AreNeeded : ℕ → List Entry → AtomSet → AtomSet → Type 0
AreNeeded p log s needed = (i : ℕ) (t : AtomSet) → HasAtom needed i → LeavesOut s i t → is_refused (refused_of p log) t ≡ true
