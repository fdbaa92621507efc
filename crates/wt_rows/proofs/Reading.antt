-- What the rows of a form that fits give to the steps that need it.
use Rattle.std.proofs.Common.{ℕ, suc, List, [], ◌∷◌, ◌≡◌, refl, ap}
use Rattle.std.specs.Prelude.{◌≢◌, ◌<◌, length}
use Rattle.wt_bag.specs.Bags.{Each}
use Rattle.wt_bag.proofs.EachLaws.{each_implies}
use Rattle.wt_value.specs.Values.{Tuple}
use Rattle.wt_symbol.specs.declared.head.Part.{Part}
use Rattle.wt_symbol.specs.declared.head.PartCols.{PartCols}
use Rattle.wt_symbol.specs.declared.head.PartCols.TheVariants.{Whole, List as Listed}
use Rattle.wt_form.specs.declared.form.Expr.{Expr}
use Rattle.wt_form.specs.declared.form.Expr.TheVariants.{Of, Null as NullOf}
use Rattle.wt_form.specs.Trees.{Ranges, no_ranges, range_then, FormRange, Rel, distinct_of, Conds, no_conds, cond_then, Cond, Pred, Join, is_in, not_in}
use Rattle.wt_form.specs.Parts.{ranges_list, conds_list}
use Rattle.wt_instance.specs.declared.instance.Instance.{Instance}
use Rattle.wt_instance.specs.Instances.{numbers}
use Rattle.wt_rows.specs.FormRows.{FormRow, values_in, numbered, label, part_values, terms_rows}
use Rattle.wt_rows.specs.Fits.{ExprFits, IsListed, ValuesFit, RowFits, RangeFits, RangesFit, CondFits, CondsFit}

-- each piece of a row is read back from its part
abbrev pub RowReads : Instance → List Part → FormRow → Type 0
RowReads I [] [] = Unit {0}
RowReads I (h ∷ hs) (vs ∷ row) = (part_values I h.cols (label I h.cols vs) ≡ vs) × RowReads I hs row
RowReads I [] (vs ∷ row) = ⊥
RowReads I (h ∷ hs) [] = ⊥

abbrev pub RangeReads : Instance → FormRange → Type 0
RangeReads I (Rel r) = Unit {0}
RangeReads I (distinct_of h ts) = Each (RowReads I h) (terms_rows ts I)

-- a Null expression that is compared has a list, and the list is not empty
abbrev pub IsFilled : Instance → Expr → Type 0
IsFilled I (Of v i c) = Unit {0}
IsFilled I (NullOf r (Listed a)) = numbers I a ≢ []
IsFilled I (NullOf r Whole) = ⊥

-- the property of each expression that a condition compares
abbrev pub OfCompared : (Expr → Type 0) → Cond → Type 0
OfCompared P (Pred p x) = Unit {0}
OfCompared P (Join x y) = P x × P y
OfCompared P (is_in x h ts) = P x
OfCompared P (not_in x h ts) = P x

-- the instance's lists are not empty
abbrev pub AreFilled : Instance → Type 0
AreFilled I = (a : ℕ) → a < length I.lists → numbers I a ≢ []

pub values_numbered : (k : ℕ) (row : Tuple) → values_in (numbered k row) ≡ row
values_numbered k [] = refl
values_numbered k (x ∷ row) = ap (λ l. x ∷ l) (values_numbered (suc k) row)

values_read : (I : Instance) (r : ℕ) (c : PartCols) (vs : Tuple) → ValuesFit I r c vs → part_values I c (label I c vs) ≡ vs
values_read I r Whole vs h = values_numbered 0 vs
values_read I r (Listed a) vs h = h

pub row_reads : (I : Instance) (hs : List Part) (row : FormRow) → RowFits I hs row → RowReads I hs row
row_reads I [] [] h = tt
row_reads I (p ∷ hs) (vs ∷ row) h = (values_read I p.leaf p.cols vs h.0, row_reads I hs row h.1)
row_reads I [] (vs ∷ row) h = absurd h
row_reads I (p ∷ hs) [] h = absurd h

range_reads : (I : Instance) (r : FormRange) → RangeFits I r → RangeReads I r
range_reads I (Rel r) h = tt
range_reads I (distinct_of h ts) f = each_implies (RowFits I h) (RowReads I h) (terms_rows ts I) (row_reads I h) f.0.1

pub ranges_read : (I : Instance) (rs : Ranges) → RangesFit I rs → Each (RangeReads I) (ranges_list rs)
ranges_read I no_ranges h = tt
ranges_read I (range_then r rs) h = (range_reads I r h.0, ranges_read I rs h.1)

expr_filled : (I : Instance) → AreFilled I → (rs : Ranges) (x : Expr) → IsListed x × ExprFits I rs x → IsFilled I x
expr_filled I full rs (Of v i c) h = tt
expr_filled I full rs (NullOf r (Listed a)) h = full a h.1.1
expr_filled I full rs (NullOf r Whole) h = absurd h.0

pub cond_filled : (I : Instance) → AreFilled I → (rs : Ranges) (c : Cond) → CondFits I rs c → OfCompared (IsFilled I) c
cond_filled I full rs (Pred p x) h = tt
cond_filled I full rs (Join x y) h = (expr_filled I full rs x h.0, expr_filled I full rs y h.1)
cond_filled I full rs (is_in x k ts) h = expr_filled I full rs x h.0
cond_filled I full rs (not_in x k ts) h = expr_filled I full rs x h.0

pub conds_filled : (I : Instance) → AreFilled I → (rs : Ranges) (cs : Conds) → CondsFit I rs cs → Each (OfCompared (IsFilled I)) (conds_list cs)
conds_filled I full rs no_conds h = tt
conds_filled I full rs (cond_then c cs) h = (cond_filled I full rs c h.0, conds_filled I full rs cs h.1)
