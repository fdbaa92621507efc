-- Lists of sets of atoms.
use Rattle.std.specs.Prelude.{◌<◌, ◌⊎◌, ◌↔◌, List}
use Rattle.wt_bag.specs.Choices.{Has, EachLater}
use Rattle.wt_constraint.specs.declared.set.AtomSet.{AtomSet}

-- ascending as numbers, none twice
abbrev pub Ascending : List AtomSet → Type 0
Ascending = EachLater (λ s t. s.0 < t.0)

-- the second list has the sets of the first and those of the property, and no others
abbrev pub Gains : List AtomSet → List AtomSet → (AtomSet → Type 0) → Type 0
Gains old new P = (s : AtomSet) → (Has s new ↔ (Has s old ⊎ P s))
