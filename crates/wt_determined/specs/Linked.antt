-- Variables that follow from others that are determined.
use Rattle.std.specs.Prelude.{ℕ, ◌≡◌, ◌≢◌, ◌⊎◌, true, List, [], ◌∷◌}
use Rattle.wt_bag.specs.Choices.{At, Has}
use Rattle.wt_symbol.specs.declared.head.PartCols.TheVariants.{Whole, List as Listed}
use Rattle.wt_form.specs.declared.form.Expr.{Expr}
use Rattle.wt_form.specs.declared.form.Expr.TheVariants.{Of, Null as NullOf}
use Rattle.wt_form.specs.Trees.{FormRange, Rel, Cond, Pred, Join, is_in, not_in}
use Rattle.wt_form.specs.Known.{Known}
use Rattle.wt_facts.specs.declared.facts.Facts.{Facts}
use Rattle.wt_facts.specs.Facts.{known_of}
use Rattle.wt_determined.specs.Alone.{RangeHeld}

-- the expression is a list of variable u that is unique in leaf r
abbrev pub KeyOf : Known → ℕ → ℕ → Expr → Type 0
KeyOf K u r (Of v i (Listed c)) = (v ≡ u) × (i ≡ 0) × (K.unique r c ≡ true)
KeyOf K u r (Of v i Whole) = ⊥
KeyOf K u r (NullOf s c) = ⊥

-- the expression is over one of these variables, and not over u
abbrev pub OverOther : List ℕ → ℕ → Expr → Type 0
OverOther ws u (Of w i c) = (w ≢ u) × Has w ws
OverOther ws u (NullOf s c) = ⊥

-- of two joined expressions the first is such a list, and the second over such a variable
abbrev pub SideLinks : Known → List ℕ → ℕ → ℕ → Expr → Expr → Type 0
SideLinks K ws u r x e = KeyOf K u r x × OverOther ws u e

-- the condition joins such expressions, and one of the conditions does
abbrev pub CondLinks : Known → List ℕ → ℕ → ℕ → Cond → Type 0
CondLinks K ws u r (Join x y) = SideLinks K ws u r x y ⊎ SideLinks K ws u r y x
CondLinks K ws u r (Pred p x) = ⊥
CondLinks K ws u r (is_in x h ts) = ⊥
CondLinks K ws u r (not_in x h ts) = ⊥

abbrev pub SomeLinks : Known → List Cond → List ℕ → ℕ → ℕ → Type 0
SomeLinks K [] ws u r = ⊥
SomeLinks K (q ∷ qs) ws u r = CondLinks K ws u r q ⊎ SomeLinks K qs ws u r

-- a unique list of the variable is joined with one of these variables
abbrev pub Linked : Known → List FormRange → List Cond → List ℕ → ℕ → Type 0
Linked K rs cs ws u = (r : ℕ) × At (λ range. range ≡ Rel r) u rs × SomeLinks K cs ws u r

-- the pieces hold the variable, or it is linked with one of these
abbrev pub Follows : Facts → List FormRange → List Cond → List Expr → List ℕ → ℕ → Type 0
Follows facts rs cs ps ws u = At (RangeHeld facts rs cs ps u) u rs ⊎ Linked (known_of facts) rs cs ws u
