-- What the verdicts on sets of one pair tell of its other sets.
use Rattle.std.specs.Prelude.{ℕ, Bool, true, false, ◌==◌, ◌||◌, bit_and, List, [], ◌∷◌}
use Rattle.std.specs.List.{list_any}
use Rattle.wt_constraint.specs.declared.set.AtomSet.{AtomSet}
use Rattle.wt_board.specs.declared.words.Verdict.{Verdict}
use Rattle.wt_board.specs.declared.words.Verdict.TheVariants.{Proved, Refused}
use Rattle.wt_board.specs.declared.words.Entry.{Entry}

-- the core of a verdict, or its refused set, before those of others
abbrev pub core_before : Bool → Verdict → List AtomSet → List AtomSet
core_before true (Proved c) sets = c ∷ sets
core_before true (Refused r) sets = sets
core_before false v sets = sets

abbrev pub refused_before : Bool → Verdict → List AtomSet → List AtomSet
refused_before true (Proved c) sets = sets
refused_before true (Refused r) sets = r ∷ sets
refused_before false v sets = sets

-- the cores that a log has of the pair of a number
abbrev pub cores_of : ℕ → List Entry → List AtomSet
cores_of p [] = []
cores_of p (e ∷ es) = core_before (e.pair == p) e.verdict (cores_of p es)

-- the refused sets that a log has of the pair of a number
abbrev pub refused_of : ℕ → List Entry → List AtomSet
refused_of p [] = []
refused_of p (e ∷ es) = refused_before (e.pair == p) e.verdict (refused_of p es)

-- each atom of c is one of s
abbrev pub lies_in : AtomSet → AtomSet → Bool
lies_in c s = bit_and c.0 s.0 == c.0

-- a core lies in the set
abbrev pub has_core : List AtomSet → AtomSet → Bool
has_core cores s = list_any (λ c. lies_in c s) cores

-- the set lies in a refused one
abbrev pub is_refused : List AtomSet → AtomSet → Bool
is_refused refused s = list_any (λ r. lies_in s r) refused

-- a set is known where it is known proved or known refused
abbrev pub is_known : ℕ → List Entry → AtomSet → Bool
is_known p log s = has_core (cores_of p log) s || is_refused (refused_of p log) s
