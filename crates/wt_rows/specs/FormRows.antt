-- The rows of a form: pieces are lists of values, and a part of the head gives them their column numbers.
use Rattle.std.specs.Prelude.{ℕ, zero, suc, Bool, true, ◌&&◌, not, cond, List, [], ◌∷◌, ◌++◌, map, filter, flat_map, nat_eq, slice_index_or}
use Rattle.std.specs.List.{list_any}
use Rattle.std.specs.Cmp.Lexicographic.{pointwise}
use Rattle.wt_bag.specs.Bags.{distinct}
use Rattle.wt_bag.specs.Choices.{choices}
use Rattle.wt_value.specs.declared.value.Value.{Value}
use Rattle.wt_value.specs.declared.value.Value.TheVariants.{Null}
use Rattle.wt_value.specs.Values.{Tuple, row_same, row_matches}
use Rattle.wt_symbol.specs.declared.head.Part.{Part}
use Rattle.wt_symbol.specs.declared.head.PartCols.{PartCols}
use Rattle.wt_symbol.specs.declared.head.PartCols.TheVariants.{Whole, List as Listed}
use Rattle.wt_form.specs.declared.form.Expr.{Expr}
use Rattle.wt_form.specs.declared.form.Expr.TheVariants.{Of, Null as NullOf}
use Rattle.wt_form.specs.Trees.{Terms, no_terms, term_then, Ranges, no_ranges, range_then, FormRange, Rel, distinct_of, Conds, no_conds, cond_then, Cond, Pred, Join, is_in, not_in, Form}
use Rattle.wt_instance.specs.declared.instance.Instance.{Instance}
use Rattle.wt_instance.specs.Instances.{width, table, numbers, is_true}

-- values with their column numbers
abbrev pub Piece : Type 0
Piece = List (ℕ × Value)

-- what the variables of a term stand for: each for a list of pieces
abbrev pub Env : Type 0
Env = List (List Piece)

-- a row of a form: the values of each piece
abbrev pub FormRow : Type 0
FormRow = List Tuple

abbrev pub values_in : Piece → Tuple
values_in p = map (λ x. x.1) p

abbrev pub form_row_same : FormRow → FormRow → Bool
form_row_same = pointwise row_same

-- the values with numbers from n on
abbrev pub numbered : ℕ → Tuple → Piece
numbered n [] = []
numbered n (v ∷ vs) = (n, v) ∷ numbered (suc n) vs

-- the values with these numbers
abbrev pub beside : List ℕ → Tuple → Piece
beside [] vs = []
beside (n ∷ ns) [] = []
beside (n ∷ ns) (v ∷ vs) = (n, v) ∷ beside ns vs

abbrev pub label : Instance → PartCols → Tuple → Piece
label I Whole vs = numbered 0 vs
label I (Listed a) vs = beside (numbers I a) vs

abbrev pub labels : Instance → List Part → FormRow → List Piece
labels I [] row = []
labels I (h ∷ hs) [] = []
labels I (h ∷ hs) (vs ∷ row) = label I h.cols vs ∷ labels I hs row

-- the value of a column, or NULL where the piece does not hold it
abbrev pub number_at : Piece → ℕ → Value
number_at [] n = Null
number_at (x ∷ p) n = cond (nat_eq x.0 n) x.1 (number_at p n)

abbrev pub part_values : Instance → PartCols → Piece → Tuple
part_values I Whole p = values_in p
part_values I (Listed a) p = map (number_at p) (numbers I a)

abbrev pub nulls : ℕ → Tuple
nulls zero = []
nulls (suc n) = Null ∷ nulls n

abbrev pub null_values : Instance → ℕ → PartCols → Tuple
null_values I r Whole = nulls (width I r)
null_values I r (Listed a) = map (λ n. Null) (numbers I a)

-- an expression under one choice of the variables
abbrev pub values_of : Instance → Env → Expr → Tuple
values_of I e (Of v i c) = part_values I c (slice_index_or (slice_index_or e v []) i [])
values_of I e (NullOf r c) = null_values I r c

abbrev pub row_of : Instance → List Expr → Env → FormRow
row_of I ps e = map (values_of I e) ps

abbrev pub put_together : FormRow → Tuple
put_together row = flat_map (λ vs. vs) row

abbrev pub one_rows : (Env → Bool) → (Env → FormRow) → List (List (List Piece)) → List FormRow
one_rows holds row ranges = map row (filter holds (choices ranges))

abbrev mutual
  pub terms_rows : Terms → Instance → List FormRow
  terms_rows no_terms I = []
  terms_rows (term_then rs cs ps ts) I = one_rows (conds_hold cs I) (row_of I ps) (ranges_rows rs I) ++ terms_rows ts I

  pub ranges_rows : Ranges → Instance → List (List (List Piece))
  ranges_rows no_ranges I = []
  ranges_rows (range_then r rs) I = range_rows r I ∷ ranges_rows rs I

  pub range_rows : FormRange → Instance → List (List Piece)
  range_rows (Rel r) I = map (λ row. numbered 0 row ∷ []) (table I r)
  range_rows (distinct_of h ts) I = map (labels I h) (distinct form_row_same (terms_rows ts I))

  pub conds_hold : Conds → Instance → Env → Bool
  conds_hold no_conds I e = true
  conds_hold (cond_then c cs) I e = cond_holds c I e && conds_hold cs I e

  pub cond_holds : Cond → Instance → Env → Bool
  cond_holds (Pred p x) I e = is_true I p (values_of I e x)
  cond_holds (Join x y) I e = row_matches (values_of I e x) (values_of I e y)
  cond_holds (is_in x h ts) I e = list_any (λ row. row_matches (values_of I e x) (put_together row)) (terms_rows ts I)
  cond_holds (not_in x h ts) I e = not (list_any (λ row. row_matches (values_of I e x) (put_together row)) (terms_rows ts I))

-- the rows of a form, their pieces put together
abbrev pub form_rows : Form → Instance → List Tuple
form_rows f I = map put_together (terms_rows f.terms I)
