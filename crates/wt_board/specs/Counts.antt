-- How often a set is out or logged.
use Rattle.std.specs.Prelude.{ℕ, ◌+◌, ◌≤◌, Bool, true, false, ◌==◌, ◌&&◌, List, [], ◌∷◌, length, filter}
use Rattle.wt_constraint.specs.declared.set.AtomSet.{AtomSet}
use Rattle.wt_board.specs.declared.words.Ticket.{Ticket}
use Rattle.wt_board.specs.declared.words.Entry.{Entry}
use Rattle.wt_board.specs.declared.words.Event.{Event}
use Rattle.wt_board.specs.declared.words.Verdict.{Verdict}
use Rattle.wt_board.specs.declared.words.Verdict.TheVariants.{Proved, Refused}
use Rattle.wt_board.specs.Machine.{State, after}

abbrev pub one : Bool → ℕ
one true = 1
one false = 0

-- the claims that are out on a set of a pair
abbrev pub times_out : List Ticket → ℕ → AtomSet → ℕ
times_out [] p s = 0
times_out (t ∷ ts) p s = one (t.pair == p && t.set.0 == s.0) + times_out ts p s

-- the entries on a set of a pair
abbrev pub times_logged : List Entry → ℕ → AtomSet → ℕ
times_logged [] p s = 0
times_logged (e ∷ es) p s = one (e.pair == p && e.set.0 == s.0) + times_logged es p s

-- whether the verdict has this core
abbrev pub is_core : Verdict → AtomSet → Bool
is_core (Proved c) d = c.0 == d.0
is_core (Refused r) d = false

-- the entries with a core of a pair
abbrev pub times_core : List Entry → ℕ → AtomSet → ℕ
times_core [] p c = 0
times_core (e ∷ es) p c = one (e.pair == p && is_core e.verdict c) + times_core es p c

-- the entries that say proved
abbrev pub says_proved : Verdict → Bool
says_proved (Proved c) = true
says_proved (Refused r) = false

abbrev pub times_proved : List Entry → ℕ
times_proved es = length (filter (λ (e : Entry). says_proved e.verdict) es)

-- at most one claim is out at each moment
abbrev pub IsAlone : State → List Event → Type 0
IsAlone st [] = length st.out ≤ 1
IsAlone st (e ∷ es) = (length st.out ≤ 1) × IsAlone (after st e) es
