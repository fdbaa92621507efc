-- The board as a machine: its state, what an event does to it and when it may be, what is pending and when it is settled.
use Rattle.std.specs.Prelude.{ℕ, ◌≡◌, ◌+◌, Bool, true, false, ◌==◌, ◌&&◌, ◌||◌, List, [], ◌∷◌, ◌++◌, Option, Some, None, slice_get, if◌then◌else◌}
use Rattle.wt_bag.specs.Bags.{Each}
use Rattle.wt_symbol.specs.Sides.{PairTree}
use Rattle.wt_constraint.specs.declared.set.AtomSet.{AtomSet}
use Rattle.wt_form.specs.Under.{Provable}
use Rattle.wt_cores.specs.Cores.{Within, IsCore, all_atoms}
use Rattle.wt_board.specs.declared.words.Ticket.{Ticket}
use Rattle.wt_board.specs.declared.words.Verdict.{Verdict}
use Rattle.wt_board.specs.declared.words.Verdict.TheVariants.{Proved, Refused}
use Rattle.wt_board.specs.declared.words.Entry.{Entry}
use Rattle.wt_board.specs.declared.words.Event.{Event}
use Rattle.wt_board.specs.declared.words.Event.TheVariants.{Claimed, Posted, GivenBack}
use Rattle.wt_board.specs.Lots.{LotTree}
use Rattle.wt_board.specs.Knowledge.{is_known}

-- the number of the next claim, the claims that are out, and the log
pub record State : Type 0 where
  pub next : ℕ
  pub out : List Ticket
  pub log : List Entry

abbrev pub start : State
start = record { next = 1; out = []; log = [] }

-- a verdict is true of a set: a core lies in it, or it lies in a set under which the pair is not provable
abbrev pub IsTrueOf : PairTree → ℕ → AtomSet → Verdict → Type 0
IsTrueOf pair steps s (Proved c) = Within c s × IsCore pair steps c
IsTrueOf pair steps s (Refused r) = Within s r × (Provable pair r steps → ⊥)

-- the lot has a pair of this number, the set is one of its atoms, and the verdict is true of them
pub record VerdictStands (lot : LotTree) (p : ℕ) (s : AtomSet) (v : Verdict) : Type 0 where
  pub pair : PairTree
  pub at : slice_get lot.pairs p ≡ Some pair
  pub within : Within s (all_atoms pair)
  pub true_of : IsTrueOf pair lot.bounds.steps s v

-- each logged verdict is so
abbrev pub LogStands : LotTree → List Entry → Type 0
LogStands lot log = Each (λ e. VerdictStands lot e.pair e.set e.verdict) log

-- the claim of a number, and the claims without it
abbrev pub find_ticket : ℕ → List Ticket → Option Ticket
find_ticket n [] = None
find_ticket n (t ∷ ts) = if t.number == n then Some t else find_ticket n ts

abbrev pub end_claim : ℕ → List Ticket → List Ticket
end_claim n [] = []
end_claim n (t ∷ ts) = if t.number == n then ts else t ∷ end_claim n ts

abbrev pub is_out : List Ticket → ℕ → AtomSet → Bool
is_out [] p s = false
is_out (t ∷ ts) p s = (t.pair == p && t.set.0 == s.0) || is_out ts p s

-- a set of a pair's atoms is neither known nor out
pub record Pending (lot : LotTree) (st : State) (p : ℕ) (s : AtomSet) : Type 0 where
  pub pair : PairTree
  pub at : slice_get lot.pairs p ≡ Some pair
  pub within : Within s (all_atoms pair)
  pub unknown : is_known p st.log s ≡ false
  pub not_out : is_out st.out p s ≡ false

-- no claim is out, and nothing is pending
pub record Settled (lot : LotTree) (st : State) : Type 0 where
  pub none_out : st.out ≡ []
  pub none_pending : (p : ℕ) (s : AtomSet) → Pending lot st p s → ⊥

-- a log settles a lot: each set of a pair's atoms is known by it
abbrev pub Settles : LotTree → List Entry → Type 0
Settles lot log = (p : ℕ) (pair : PairTree) → slice_get lot.pairs p ≡ Some pair → (s : AtomSet) → Within s (all_atoms pair) → is_known p log s ≡ true

-- what an event does
abbrev pub entry_of : Ticket → Verdict → Entry
entry_of t v = record { pair = t.pair; set = t.set; verdict = v }

abbrev pub after : State → Event → State
after st (Claimed t) = record { next = st.next + 1; out = st.out ++ t ∷ []; log = st.log }
after st (Posted t v) = record { next = st.next; out = end_claim t.number st.out; log = st.log ++ entry_of t v ∷ [] }
after st (GivenBack t) = record { next = st.next; out = end_claim t.number st.out; log = st.log }

abbrev pub replay : State → List Event → State
replay st [] = st
replay st (e ∷ es) = replay (after st e) es

-- when it may be: a claim is of a pending set, under the next number; what ends a claim has its ticket; what is posted is true
abbrev pub MayBe : LotTree → State → Event → Type 0
MayBe lot st (Claimed t) = (t.number ≡ st.next) × Pending lot st t.pair t.set
MayBe lot st (Posted t v) = (find_ticket t.number st.out ≡ Some t) × VerdictStands lot t.pair t.set v
MayBe lot st (GivenBack t) = find_ticket t.number st.out ≡ Some t

-- a run: events that may be, one after another
abbrev pub IsRun : LotTree → State → List Event → Type 0
IsRun lot st [] = Unit {0}
IsRun lot st (e ∷ es) = MayBe lot st e × IsRun lot (after st e) es
