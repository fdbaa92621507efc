-- Steps that drop a condition or a term.
use Rattle.std.specs.Prelude.{ℕ, ◌≡◌, ◌⊎◌, true, List}
use Rattle.wt_bag.specs.Choices.{At, Has}
use Rattle.wt_symbol.specs.declared.head.Part.{Part}
use Rattle.wt_symbol.specs.declared.head.PartCols.TheVariants.{Whole, List as Listed}
use Rattle.wt_form.specs.declared.form.Expr.{Expr}
use Rattle.wt_form.specs.declared.form.Expr.TheVariants.{Of, Null as NullOf}
use Rattle.wt_form.specs.Trees.{Terms, no_terms, Ranges, Rel, Conds, cond_then, Cond, Pred, Join, is_in, not_in}
use Rattle.wt_form.specs.Parts.{one_term, conds_append, ranges_list, conds_list}
use Rattle.wt_form.specs.Known.{Known}
use Rattle.wt_form.specs.Congruent.{expr_same, CondSame}
use Rattle.wt_form.specs.Facts.{Joins, NotNull}
use Rattle.wt_form.specs.Places.{CondAt, others, itself, list_rows}

-- drops a condition that is the same as an earlier one of its term
pub record Repeated (K : Known) (rs : Ranges) (cs : Conds) (ps : List Expr) (us : Terms) : Type 0 where
  pub before : Conds
  pub between : Conds
  pub after : Conds
  pub earlier : Cond
  pub later : Cond
  pub is : cs ≡ conds_append before (cond_then earlier (conds_append between (cond_then later after)))
  pub same : CondSame K (itself rs) earlier later
  pub gives : us ≡ one_term rs (conds_append before (cond_then earlier (conds_append between after))) ps

-- the expression has no NULL where these conditions are true
abbrev pub NeverNull : Known → Ranges → Conds → Expr → Type 0
NeverNull K rs cs (Of v i (Listed c)) = NotNull K (ranges_list rs) (conds_list cs) v i c
NeverNull K rs cs (Of v i Whole) = ⊥
NeverNull K rs cs (NullOf r c) = ⊥

-- drops a Join of an expression with itself that is never NULL
pub record SelfJoin (K : Known) (rs : Ranges) (cs : Conds) (ps : List Expr) (us : Terms) : Type 0 where
  pub x : Expr
  pub y : Expr
  pub place : CondAt cs (Join x y)
  pub same : expr_same K (itself rs) x y ≡ true
  pub never_null : NeverNull K rs (others place) x
  pub gives : us ≡ one_term rs (others place) ps

-- an In of e is true by a reference, where the other conditions are
pub record ByReference (K : Known) (rs : Ranges) (cs : Conds) (e : Expr) (ts : Terms) : Type 0 where
  pub x : ℕ
  pub a : ℕ
  pub r : ℕ
  pub s : ℕ
  pub b : ℕ
  pub from : e ≡ Of x 0 (Listed a)
  pub over : At (λ range. range ≡ Rel r) x (ranges_list rs)
  pub to : ts ≡ list_rows s b
  pub refers_to : K.refs r a s b ≡ true
  pub never_null : NeverNull K rs cs e

-- an In of e is true by a Join of the same values, where the other conditions are
pub record ByJoin (K : Known) (rs : Ranges) (cs : Conds) (e : Expr) (ts : Terms) : Type 0 where
  pub e' : Expr
  pub y : ℕ
  pub b : ℕ
  pub r : ℕ
  pub s : ℕ
  pub b' : ℕ
  pub join : Cond
  pub there : Has join (conds_list cs)
  pub joins : Joins e' (Of y 0 (Listed b)) join
  pub same : expr_same K (itself rs) e e' ≡ true
  pub over : At (λ range. range ≡ Rel r) y (ranges_list rs)
  pub to : ts ≡ list_rows s b'
  pub leaf : K.rel r s ≡ true
  pub list : K.attr b b' ≡ true

-- drops an In that the rest of its term makes true
pub record InTrue (K : Known) (rs : Ranges) (cs : Conds) (ps : List Expr) (us : Terms) : Type 0 where
  pub e : Expr
  pub h : List Part
  pub ts : Terms
  pub place : CondAt cs (is_in e h ts)
  pub why : ByReference K rs (others place) e ts ⊎ ByJoin K rs (others place) e ts
  pub gives : us ≡ one_term rs (others place) ps

-- the expression is NULL, column by column
abbrev pub IsNull : Expr → Type 0
IsNull (NullOf r c) = Unit {0}
IsNull (Of v i c) = ⊥

-- drops a term with a NotIn that the rest of it makes false
pub record NotInFalse (K : Known) (rs : Ranges) (cs : Conds) (ps : List Expr) (us : Terms) : Type 0 where
  pub e : Expr
  pub h : List Part
  pub ts : Terms
  pub place : CondAt cs (not_in e h ts)
  pub why : ((c : Cond) × Has c (conds_list (others place)) × CondSame K (itself rs) c (is_in e h ts))
      ⊎ ByReference K rs (others place) e ts ⊎ ByJoin K rs (others place) e ts
  pub gives : us ≡ no_terms

-- a Join or an In of NULLs, which is never true
abbrev pub ComparesNull : Cond → Type 0
ComparesNull (Join x y) = IsNull x ⊎ IsNull y
ComparesNull (is_in x h ts) = IsNull x
ComparesNull (Pred p x) = ⊥
ComparesNull (not_in x h ts) = ⊥

-- drops a term with such a condition
pub record NullCompared (rs : Ranges) (cs : Conds) (ps : List Expr) (us : Terms) : Type 0 where
  pub c : Cond
  pub there : Has c (conds_list cs)
  pub null : ComparesNull c
  pub gives : us ≡ no_terms

-- drops a NotIn of NULLs, which is always true
pub record NotInOfNull (rs : Ranges) (cs : Conds) (ps : List Expr) (us : Terms) : Type 0 where
  pub e : Expr
  pub h : List Part
  pub ts : Terms
  pub place : CondAt cs (not_in e h ts)
  pub null : IsNull e
  pub gives : us ≡ one_term rs (others place) ps
