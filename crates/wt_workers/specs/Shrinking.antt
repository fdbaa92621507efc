-- What is left of a set as its atoms are tried. Private contracts alone cite this file.
use Rattle.std.specs.Prelude.{ℕ, ◌<◌, ◌≤◌}
use Rattle.wt_symbol.specs.Sides.{PairTree}
use Rattle.wt_constraint.specs.declared.set.AtomSet.{AtomSet}
use Rattle.wt_form.specs.Under.{Provable}
use Rattle.wt_form.specs.Relaxed.{LeavesOut}
use Rattle.wt_cores.specs.Cores.{Within}

-- the atom cannot be left out
abbrev pub IsTight : PairTree → ℕ → AtomSet → ℕ → Type 0
IsTight pair steps s i = (t : AtomSet) → LeavesOut s i t → Provable pair t steps → ⊥

-- a provable set in another, of which the atom i cannot be left out
pub record Shrinks (pair : PairTree) (steps i : ℕ) (s left : AtomSet) : Type 0 where
  pub within : Within left s
  pub less : left.0 ≤ s.0
  pub provable : Provable pair left steps
  pub tight : IsTight pair steps left i

-- the same of all atoms below a number
pub record ShrinksBelow (pair : PairTree) (steps n : ℕ) (s left : AtomSet) : Type 0 where
  pub within : Within left s
  pub less : left.0 ≤ s.0
  pub provable : Provable pair left steps
  pub tight : (i : ℕ) → i < n → IsTight pair steps left i
