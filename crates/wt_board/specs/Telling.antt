-- What is told of a pair. Private contracts alone cite this file.
use Rattle.std.specs.Prelude.{ℕ, ◌≡◌, ◌≤◌, ◌↔◌, ◌++◌, List, map}
use Rattle.wt_bag.specs.Choices.{Has}
use Rattle.wt_symbol.specs.Sides.{PairTree}
use Rattle.wt_constraint.specs.declared.set.AtomSet.{AtomSet}
use Rattle.wt_cores.specs.Cores.{missing, all_atoms}
use Rattle.wt_cores.specs.SetLists.{Ascending}

-- those of the cores that leave out at most so many atoms, ascending
pub record AreNear (all : AtomSet) (depth : ℕ) (cores sets : List AtomSet) : Type 0 where
  pub members : (s : AtomSet) → (Has s sets ↔ (Has s cores × (missing 64 all s ≤ depth)))
  pub ascending : Ascending sets

-- a rule of the pair with each of them is added
abbrev pub AddsRules : ℕ → List AtomSet → PairTree → List (PairTree × AtomSet) → List (PairTree × AtomSet) → Type 0
AddsRules depth cores pair old new = (sets : List AtomSet) × AreNear (all_atoms pair) depth cores sets × (new ≡ old ++ map (λ s. (pair, s)) sets)
