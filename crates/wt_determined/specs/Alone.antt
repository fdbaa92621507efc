-- Variables that are determined by the pieces alone.
use Rattle.std.specs.Prelude.{ℕ, ◌≡◌, ◌⊎◌, true, List, [], ◌∷◌}
use Rattle.wt_bag.specs.Choices.{Has}
use Rattle.wt_symbol.specs.declared.head.PartCols.TheVariants.{Whole, List as Listed}
use Rattle.wt_form.specs.declared.form.Expr.{Expr}
use Rattle.wt_form.specs.declared.form.Expr.TheVariants.{Of}
use Rattle.wt_form.specs.Trees.{FormRange, Rel, distinct_of, Cond}
use Rattle.wt_form.specs.Known.{Known}
use Rattle.wt_form.specs.Facts.{HoldsParts}
use Rattle.wt_facts.specs.declared.facts.LeafList.{LeafList}
use Rattle.wt_facts.specs.declared.facts.Facts.{Facts}
use Rattle.wt_facts.specs.Facts.{known_of}
use Rattle.wt_not_null.specs.NeverNull.{IsNeverNull}
use Rattle.wt_determined.specs.Pieces.{HasListOver}

-- the pieces hold the variable whole, or a list that has the columns of list c
abbrev pub IsHeld : Known → ℕ → ℕ → List Expr → Type 0
IsHeld K u c ps = Has (Of u 0 Whole) ps ⊎ HasListOver K u c ps

-- the key is one of leaf r, is not NULL and is held
abbrev pub KeyHeld : Known → List FormRange → List Cond → List Expr → ℕ → ℕ → LeafList → Type 0
KeyHeld K rs cs ps u r key = (K.rel r key.leaf ≡ true) × IsNeverNull K rs cs (Of u 0 (Listed key.list)) × IsHeld K u key.list ps

abbrev pub SomeKeyHeld : Known → List FormRange → List Cond → List Expr → ℕ → ℕ → List LeafList → Type 0
SomeKeyHeld K rs cs ps u r [] = ⊥
SomeKeyHeld K rs cs ps u r (key ∷ keys) = KeyHeld K rs cs ps u r key ⊎ SomeKeyHeld K rs cs ps u r keys

-- the pieces hold a key of a variable with this range, or each of its parts
abbrev pub RangeHeld : Facts → List FormRange → List Cond → List Expr → ℕ → FormRange → Type 0
RangeHeld facts rs cs ps u (Rel r) = SomeKeyHeld (known_of facts) rs cs ps u r facts.unique
RangeHeld facts rs cs ps u (distinct_of h ts) = HoldsParts u 0 h ps
