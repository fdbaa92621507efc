-- What of a variable the pieces of a term hold.
use Rattle.std.specs.Prelude.{ℕ, ◌≡◌, ◌⊎◌, true, List, [], ◌∷◌}
use Rattle.wt_symbol.specs.declared.head.PartCols.TheVariants.{Whole, List as Listed}
use Rattle.wt_form.specs.declared.form.Expr.{Expr}
use Rattle.wt_form.specs.declared.form.Expr.TheVariants.{Of, Null as NullOf}
use Rattle.wt_form.specs.Known.{Known}

-- the expression is a list of the variable's first part that has the columns of list c
abbrev pub ListOver : Known → ℕ → ℕ → Expr → Type 0
ListOver K u c (Of v i (Listed d)) = (v ≡ u) × (i ≡ 0) × (K.within c d ≡ true)
ListOver K u c (Of v i Whole) = ⊥
ListOver K u c (NullOf r d) = ⊥

abbrev pub HasListOver : Known → ℕ → ℕ → List Expr → Type 0
HasListOver K u c [] = ⊥
HasListOver K u c (x ∷ xs) = ListOver K u c x ⊎ HasListOver K u c xs
