-- The step that opens a variable over distinct rows.
use Rattle.std.specs.Prelude.{ℕ, zero, suc, ◌-◌, ◌+◌, ◌<◌, ◌≡◌, ◌⊎◌, Bool, true, cond, nat_eq, nat_lt, List, [], ◌∷◌, map, Option, Some, None}
use Rattle.wt_symbol.specs.declared.head.Part.{Part}
use Rattle.wt_symbol.specs.declared.head.PartCols.{PartCols}
use Rattle.wt_form.specs.declared.form.Expr.{Expr}
use Rattle.wt_form.specs.declared.form.Expr.TheVariants.{Of, Null as NullOf}
use Rattle.wt_form.specs.Trees.{Terms, Ranges, range_then, distinct_of, Conds, no_conds, cond_then, Cond, Pred, Join, is_in, not_in}
use Rattle.wt_form.specs.Parts.{one_term, ranges_append, conds_append, conds_up, expr_up, ranges_count, ranges_list, conds_list}
use Rattle.wt_form.specs.Known.{Known, cols_eq}
use Rattle.wt_form.specs.Facts.{Determined}

-- an expression on a part with columns `own`, cut down to columns c: there is one where c is `own`,
-- where the expression has the columns `own`, and where it is NULL
abbrev pub take_cols : PartCols → PartCols → Expr → Option Expr
take_cols own c e = cond (cols_eq c own) (Some e) (cut e)
  where
    cut : Expr → Option Expr
    cut (Of v i d) = cond (cols_eq d own) (Some (Of v i c)) None
    cut (NullOf r d) = Some (NullOf r c)

-- the columns c of part i of a row with this head and these pieces
abbrev pub take_part : List Part → List Expr → ℕ → PartCols → Option Expr
take_part [] ps i c = None
take_part (h ∷ hs) [] i c = None
take_part (h ∷ hs) (p ∷ ps) zero c = take_cols h.cols c p
take_part (h ∷ hs) (p ∷ ps) (suc i) c = take_part hs ps i c

-- how a variable is opened: variable `at` stood for a row with this head; n variables take its
-- place, over which these pieces are
pub record Opening : Type 0 where
  pub at : ℕ
  pub n : ℕ
  pub head : List Part
  pub pieces : List Expr

-- the expression where the variable is opened: none where its columns cannot be cut from a piece
abbrev pub expr_opened : Opening → Expr → Option Expr
expr_opened o (Of v i c) = cond (nat_lt v o.at) (Some (Of v i c)) (cond (nat_eq v o.at) (take_part o.head o.pieces i c) (Some (Of (o.n + v - 1) i c)))
expr_opened o (NullOf r c) = Some (NullOf r c)

-- the second is the first opened; likewise expressions in order, and conditions in order
abbrev pub CondOpened : Opening → Cond → Cond → Type 0
CondOpened o (Pred p x) (Pred q y) = (p ≡ q) × (expr_opened o x ≡ Some y)
CondOpened o (Join x y) (Join v w) = (expr_opened o x ≡ Some v) × (expr_opened o y ≡ Some w)
CondOpened o (is_in x h ts) (is_in y h' us) = (expr_opened o x ≡ Some y) × (h ≡ h') × (ts ≡ us)
CondOpened o (not_in x h ts) (not_in y h' us) = (expr_opened o x ≡ Some y) × (h ≡ h') × (ts ≡ us)
CondOpened o _ _ = ⊥

abbrev pub CondsOpened : Opening → Conds → Conds → Type 0
CondsOpened o no_conds ds = ds ≡ no_conds
CondsOpened o (cond_then c cs) no_conds = ⊥
CondsOpened o (cond_then c cs) (cond_then d ds) = CondOpened o c d × CondsOpened o cs ds

abbrev pub PiecesOpened : Opening → List Expr → List Expr → Type 0
PiecesOpened o [] ys = ys ≡ []
PiecesOpened o (x ∷ xs) [] = ⊥
PiecesOpened o (x ∷ xs) (y ∷ ys) = (expr_opened o x ≡ Some y) × PiecesOpened o xs ys

-- each variable of the term is determined in it
abbrev pub AllDetermined : Known → Ranges → Conds → List Expr → Type 0
AllDetermined K rs cs ps = (u : ℕ) → u < ranges_count rs → Determined K (ranges_list rs) (conds_list cs) ps u

-- opens a variable over the distinct rows of a form with one term: the term's variables take its place,
-- and the term's conditions go last. Each of them is determined in that term, or the rows are only
-- asked which of them occur
pub record Opened (K : Known) (nested : Bool) (rs : Ranges) (cs : Conds) (ps : List Expr) (us : Terms) : Type 0 where
  pub before : Ranges
  pub after : Ranges
  pub head : List Part
  pub inner : Ranges
  pub conds : Conds
  pub pieces : List Expr
  pub is : rs ≡ ranges_append before (range_then (distinct_of head (one_term inner conds pieces)) after)
  pub allowed : (nested ≡ true) ⊎ AllDetermined K inner conds pieces
  pub cs' : Conds
  pub ps' : List Expr
  pub conds_opened : CondsOpened (record { at = ranges_count before; n = ranges_count inner; head = head; pieces = map (expr_up (ranges_count before)) pieces }) cs cs'
  pub pieces_opened : PiecesOpened (record { at = ranges_count before; n = ranges_count inner; head = head; pieces = map (expr_up (ranges_count before)) pieces }) ps ps'
  pub gives : us ≡ one_term (ranges_append before (ranges_append inner after)) (conds_append cs' (conds_up (ranges_count before) conds)) ps'
