-- What a set of atoms shrinks to.
use Rattle.std.specs.Prelude.{ℕ, zero, suc}
use Rattle.wt_symbol.specs.Sides.{PairTree}
use Rattle.wt_constraint.specs.declared.set.AtomSet.{AtomSet}
use Rattle.wt_form.specs.Under.{Provable}
use Rattle.wt_form.specs.Relaxed.{LeavesOut}

-- the last set is left of the first when its atoms below a number are tried from the highest down, and
-- one is left out wherever what remains is provable by chains of at most k steps
pub data Shrunk (p : PairTree) (k : ℕ) : ℕ → AtomSet → AtomSet → Type 0 where
  none_to_try : {s : AtomSet} → Shrunk p k zero s s
  left_out : {i : ℕ} {s t r : AtomSet} → LeavesOut s i t → Provable p t k → Shrunk p k i t r → Shrunk p k (suc i) s r
  kept : {i : ℕ} {s r : AtomSet} → ((t : AtomSet) → LeavesOut s i t → Provable p t k → ⊥) → Shrunk p k i s r → Shrunk p k (suc i) s r
