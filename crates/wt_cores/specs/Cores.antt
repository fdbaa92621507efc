-- Cores of a pair: least provable sets of its atoms.
use Rattle.std.specs.Prelude.{ℕ, zero, suc, ◌+◌, ◌-◌, ◌^◌, ◌<◌, ◌≤◌, ◌≡◌, ◌⊎◌, List, length}
use Rattle.std.specs.Int.{bit_at}
use Rattle.wt_bag.specs.Choices.{Has}
use Rattle.wt_symbol.specs.Sides.{PairTree}
use Rattle.wt_constraint.specs.declared.set.AtomSet.{AtomSet}
use Rattle.wt_constraint.specs.Atoms.{atoms_of_pair}
use Rattle.wt_constraint.specs.Sets.{HasAtom}
use Rattle.wt_form.specs.Under.{Provable}
use Rattle.wt_form.specs.Relaxed.{LeavesOut, IsLeast}
use Rattle.wt_cores.specs.SetLists.{Ascending}

-- each atom of the first set is one of the second
abbrev pub Within : AtomSet → AtomSet → Type 0
Within s t = (i : ℕ) → HasAtom s i → HasAtom t i

-- how many of the first n atoms the first set has and the second has not
unfoldable pub missing : ℕ → AtomSet → AtomSet → ℕ
missing zero t s = 0
missing (suc n) t s = missing n t s + (bit_at t.0 n - bit_at s.0 n)

-- a provable set of 64 bits, of which no set with one atom less is provable
pub record IsCore (p : PairTree) (k : ℕ) (s : AtomSet) : Type 0 where
  pub small : s.0 < 2 ^ 64
  pub provable : Provable p s k
  pub least : IsLeast p k s

-- the set of all atoms of a pair
abbrev pub all_atoms : PairTree → AtomSet
all_atoms p = record { 0 = 2 ^ length (atoms_of_pair p) - 1 }

-- a core that leaves out at most so many of the pair's atoms
pub record IsCoreWithin (p : PairTree) (k depth : ℕ) (s : AtomSet) : Type 0 where
  pub core : IsCore p k s
  pub within : Within s (all_atoms p)
  pub few : missing 64 (all_atoms p) s ≤ depth

-- what is found of a pair: some cores among its atoms, ascending, and some sets that are not provable
pub record AreFound (p : PairTree) (k : ℕ) (cores refused : List AtomSet) : Type 0 where
  pub are_cores : (s : AtomSet) → Has s cores → IsCore p k s
  pub within : (s : AtomSet) → Has s cores → Within s (all_atoms p)
  pub ascending : Ascending cores
  pub unprovable : (s : AtomSet) → Has s refused → Provable p s k → ⊥

-- the set without the atom i, if it has it, is not provable
abbrev pub IsNeeded : PairTree → ℕ → AtomSet → ℕ → Type 0
IsNeeded p k s i = (t : AtomSet) → LeavesOut s i t → Provable p t k → ⊥

-- each core that has the atoms of the first set, and others of the second alone, is among these
abbrev pub AllBetween : PairTree → ℕ → AtomSet → AtomSet → List AtomSet → Type 0
AllBetween p k set free cores = (c : AtomSet) → IsCore p k c → Within set c → ((j : ℕ) → HasAtom c j → HasAtom set j ⊎ HasAtom free j) → Has c cores

-- the same of the cores that have the atom i beside these
abbrev pub AllWith : PairTree → ℕ → AtomSet → AtomSet → ℕ → List AtomSet → Type 0
AllWith p k set free i cores = (c : AtomSet) → IsCore p k c → Within set c → HasAtom c i → ((j : ℕ) → HasAtom c j → HasAtom set j ⊎ HasAtom free j ⊎ (j ≡ i)) → Has c cores

-- of the free atoms, those that the unprovable set has and those below a number are given
pub record Given (free refused : AtomSet) (i : ℕ) (given : AtomSet) : Type 0 where
  pub within : Within given free
  pub all : (j : ℕ) → HasAtom free j → (j < i) ⊎ HasAtom refused j → HasAtom given j
