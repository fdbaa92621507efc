-- How steps change expressions.
use Rattle.std.specs.Prelude.{ℕ, ◌-◌, Bool, true, false, ◌&&◌, ◌||◌, cond, nat_eq, nat_lt}
use Rattle.wt_symbol.specs.declared.head.PartCols.{PartCols}
use Rattle.wt_symbol.specs.declared.head.PartCols.TheVariants.{Whole, List as Listed}
use Rattle.wt_form.specs.declared.form.Expr.{Expr}
use Rattle.wt_form.specs.declared.form.Expr.TheVariants.{Of, Null as NullOf}
use Rattle.wt_form.specs.Trees.{Cond, Pred, Join, is_in, not_in}
use Rattle.wt_form.specs.Known.{cols_eq}
use Rattle.wt_form.specs.Facts.{IsOver}

-- columns that stand before others: by list, a whole part last
abbrev pub cols_before : PartCols → PartCols → Bool
cols_before (Listed a) (Listed b) = nat_lt a b
cols_before (Listed a) Whole = true
cols_before Whole d = false

-- an expression that stands before another one: by variable, by part, by list, a whole part last
abbrev pub expr_before : Expr → Expr → Bool
expr_before (Of v i c) (Of w j d) = nat_lt v w || (nat_eq v w && (nat_lt i j || (nat_eq i j && cols_before c d)))
expr_before (NullOf r c) e = false
expr_before (Of v i c) (NullOf r d) = false

-- whether two expressions are equal as they are written
abbrev pub expr_eq : Expr → Expr → Bool
expr_eq (Of v i c) (Of w j d) = nat_eq v w && (nat_eq i j && cols_eq c d)
expr_eq (NullOf r c) (NullOf s d) = nat_eq r s && cols_eq c d
expr_eq (Of v i c) (NullOf s d) = false
expr_eq (NullOf r c) (Of w j d) = false

-- e for e'
abbrev pub put : Expr → Expr → Expr → Expr
put e e' x = cond (expr_eq x e') e x

-- the expression where variable y is taken away: the variables after it close up
abbrev pub expr_down : ℕ → Expr → Expr
expr_down y (Of v i c) = Of (cond (nat_lt y v) (v - 1) v) i c
expr_down y (NullOf r c) = NullOf r c

-- the same, with variable x standing for y
abbrev pub expr_onto : ℕ → ℕ → Expr → Expr
expr_onto x y (Of v i c) = cond (nat_eq v y) (Of x i c) (expr_down y (Of v i c))
expr_onto x y (NullOf r c) = NullOf r c

-- the condition has no expression over the variable
abbrev pub CondAvoids : ℕ → Cond → Type 0
CondAvoids y (Pred p x) = IsOver y x → ⊥
CondAvoids y (Join x z) = (IsOver y x → ⊥) × (IsOver y z → ⊥)
CondAvoids y (is_in x h ts) = IsOver y x → ⊥
CondAvoids y (not_in x h ts) = IsOver y x → ⊥
