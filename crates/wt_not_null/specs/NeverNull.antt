-- Expressions that have no NULL where conditions are true.
use Rattle.std.specs.Prelude.{ℕ, ◌≡◌, ◌⊎◌, Bool, ◌&&◌, true, List, [], ◌∷◌}
use Rattle.wt_bag.specs.Choices.{At}
use Rattle.wt_symbol.specs.declared.head.PartCols.TheVariants.{Whole, List as Listed}
use Rattle.wt_form.specs.declared.form.Expr.{Expr}
use Rattle.wt_form.specs.declared.form.Expr.TheVariants.{Of, Null as NullOf}
use Rattle.wt_form.specs.Trees.{FormRange, Rel, Cond, Pred, Join, is_in, not_in}
use Rattle.wt_form.specs.Known.{Known}
use Rattle.wt_form.specs.Facts.{NotNull}
use Rattle.wt_facts.specs.declared.facts.LeafList.{LeafList}
use Rattle.wt_facts.specs.declared.facts.Facts.{Facts}
use Rattle.wt_facts.specs.Facts.{known_of}

-- whether leaf r is this one, and list c among its list
abbrev pub covers : Facts → ℕ → ℕ → LeafList → Bool
covers facts r c at = (known_of facts).rel r at.leaf && (known_of facts).within c at.list

-- list c of variable v has no NULL, by its relation
abbrev pub ByRelation : Known → List FormRange → ℕ → ℕ → Type 0
ByRelation K rs v c = (r : ℕ) × (d : ℕ) × At (λ range. range ≡ Rel r) v rs × (K.not_null r d ≡ true) × (K.within c d ≡ true)

-- the expression is a list of part i of variable v that has the columns of list c
abbrev pub ExprWithin : Known → ℕ → ℕ → ℕ → Expr → Type 0
ExprWithin K v i c (Of w j (Listed d)) = (w ≡ v) × (j ≡ i) × (K.within c d ≡ true)
ExprWithin K v i c (Of w j Whole) = ⊥
ExprWithin K v i c (NullOf r d) = ⊥

-- the condition compares such an expression
abbrev pub ComparedWithin : Known → ℕ → ℕ → ℕ → Cond → Type 0
ComparedWithin K v i c (Pred p x) = ⊥
ComparedWithin K v i c (Join x y) = ExprWithin K v i c x ⊎ ExprWithin K v i c y
ComparedWithin K v i c (is_in x h ts) = ExprWithin K v i c x
ComparedWithin K v i c (not_in x h ts) = ⊥

-- one of the conditions does
abbrev pub ByCondition : Known → List Cond → ℕ → ℕ → ℕ → Type 0
ByCondition K [] v i c = ⊥
ByCondition K (q ∷ qs) v i c = ComparedWithin K v i c q ⊎ ByCondition K qs v i c

-- the expression has no NULL in rows of a term with these ranges, where these conditions are true
abbrev pub IsNeverNull : Known → List FormRange → List Cond → Expr → Type 0
IsNeverNull K rs cs (Of v i (Listed c)) = NotNull K rs cs v i c
IsNeverNull K rs cs (Of v i Whole) = ⊥
IsNeverNull K rs cs (NullOf r c) = ⊥
