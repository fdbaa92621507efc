-- Which symbols a set of atoms makes the same.
use Rattle.std.specs.Prelude.{◌≡◌, ℕ, List, Some, slice_get}
use Rattle.wt_constraint.specs.declared.atom.Atom.{Atom}
use Rattle.wt_constraint.specs.declared.atom.Kind.{Kind}
use Rattle.wt_constraint.specs.declared.set.AtomSet.{AtomSet}
use Rattle.wt_constraint.specs.Atoms.{equal}
use Rattle.wt_constraint.specs.Sets.{HasAtom}

-- the k-th atom is in the set and makes the two symbols of the kind equal
pub record IsLink (kind : Kind) (atoms : List Atom) (set : AtomSet) (k x y : ℕ) : Type 0 where
  pub there : HasAtom set k
  pub atom : slice_get atoms k ≡ Some (equal kind x y)

-- the reflexive, symmetric and transitive closure of the atoms in the set that make two symbols of the kind equal
pub data AreSame (kind : Kind) (atoms : List Atom) (set : AtomSet) : ℕ → ℕ → Type 0 where
  reflexive : {x : ℕ} → AreSame kind atoms set x x
  linked : {k x y : ℕ} → IsLink kind atoms set k x y → AreSame kind atoms set x y
  symmetric : {x y : ℕ} → AreSame kind atoms set x y → AreSame kind atoms set y x
  transitive : {x y z : ℕ} → AreSame kind atoms set x y → AreSame kind atoms set y z → AreSame kind atoms set x z
