-- What a search for a set goes by. Private contracts alone cite this file.
use Rattle.std.specs.Prelude.{ℕ, ◌≡◌, true, List, ◌++◌}
use Rattle.wt_constraint.specs.declared.set.AtomSet.{AtomSet}
use Rattle.wt_constraint.specs.Sets.{HasAtom}
use Rattle.wt_form.specs.Relaxed.{LeavesOut}
use Rattle.wt_board.specs.declared.words.Entry.{Entry}
use Rattle.wt_board.specs.Knowledge.{cores_of, refused_of, is_refused}
use Rattle.wt_board.specs.Covering.{Lore}

-- what is known by cores and refused sets and by more entries of a log
abbrev pub lore_with : List AtomSet → List AtomSet → List Entry → ℕ → Lore
lore_with cores refused rest p = record { cores = cores ++ cores_of p rest; refused = refused ++ refused_of p rest }

-- without one of the atoms the set lies in a refused one
abbrev pub AreRefusedWithout : List AtomSet → AtomSet → AtomSet → Type 0
AreRefusedWithout refused s atoms = (i : ℕ) (t : AtomSet) → HasAtom atoms i → LeavesOut s i t → is_refused refused t ≡ true
