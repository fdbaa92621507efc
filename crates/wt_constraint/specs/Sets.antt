-- Sets of atoms by their numbers.
use Rattle.std.specs.Prelude.{◌≡◌, ℕ}
use Rattle.std.specs.Int.{bit_at}
use Rattle.wt_constraint.specs.declared.set.AtomSet.{AtomSet}

-- the set has the i-th atom
pub record HasAtom (set : AtomSet) (i : ℕ) : Type 0 where
  pub bit : bit_at set.0 i ≡ 1
