-- The terms of the worked rows.
use Rattle.std.specs.Prelude.{ℕ, true, false, List, [], ◌∷◌}
use Rattle.wt_symbol.specs.declared.head.Part.{Part}
use Rattle.wt_symbol.specs.declared.head.PartCols.TheVariants.{Whole, List as Listed}
use Rattle.wt_form.specs.declared.form.Expr.{Expr}
use Rattle.wt_form.specs.declared.form.Expr.TheVariants.{Of, Null as NullOf}
use Rattle.wt_form.specs.Trees.{Terms, term_then, Ranges, no_ranges, range_then, FormRange, Rel, distinct_of, Conds, no_conds, cond_then, Cond, Pred, Join, is_in, not_in, Form}
use Rattle.wt_form.specs.Parts.{one_term}
use Rattle.wt_form.specs.Places.{list_rows}
use Rattle.wt_form.specs.Known.{Known}
use Rattle.wt_form.specs.Worked.{list, one_row, only_cond}

abbrev pub two_conds : Cond → Cond → Conds
two_conds c d = cond_then c (cond_then d no_conds)

-- three variables over leaf 0
abbrev pub three_rows : Ranges
three_rows = range_then (Rel 0) (range_then (Rel 0) (range_then (Rel 0) no_ranges))

-- list b of leaf r, as a part of a head
abbrev pub part : ℕ → ℕ → Part
part r b = record { leaf = r; cols = Listed b }

-- all of leaf r
abbrev pub whole_part : ℕ → Part
whole_part r = record { leaf = r; cols = Whole }

-- all of the row of variable v
abbrev pub all_of : ℕ → Expr
all_of v = Of v 0 Whole

-- predicate p on list 0 of variable 0
abbrev pub pred : ℕ → Cond
pred p = Pred p (list 0 0)

-- two lists of variable 0 match, and list 0 of variable 0 matches itself
abbrev pub self_joined : ℕ → Cond
self_joined a = Join (list 0 0) (list 0 a)

-- list 0 of the first variable matches list 0 of the second
abbrev pub match : Cond
match = Join (list 0 0) (list 1 0)

-- list 0 of variable 0 is among the values of list b in the rows of leaf r, or it is not
abbrev pub in_rows : ℕ → ℕ → Cond
in_rows r b = is_in (list 0 0) (part r b ∷ []) (list_rows r b)

abbrev pub not_in_rows : ℕ → ℕ → Cond
not_in_rows r b = not_in (list 0 0) (part r b ∷ []) (list_rows r b)

-- the values of list 1 in some rows of leaf 1
abbrev pub filtered_rows : Terms
filtered_rows = one_term (range_then (Rel 1) no_ranges) (only_cond (pred 0)) (list 0 1 ∷ [])

-- NULLs for list 1
abbrev pub null : Expr
null = NullOf 1 (Listed 1)

-- one variable over the distinct values that some terms give for list 0 of leaf 0, and one more before it
abbrev pub distinct_values : Terms → FormRange
distinct_values ts = distinct_of (part 0 0 ∷ []) ts

abbrev pub one_distinct : Terms → Ranges
one_distinct ts = range_then (distinct_values ts) no_ranges

abbrev pub row_and_distinct : Terms → Ranges
row_and_distinct ts = range_then (Rel 0) (range_then (distinct_values ts) no_ranges)

-- two terms
abbrev pub both_rows : Terms
both_rows = term_then one_row no_conds (list 0 0 ∷ []) (list_rows 0 0)

-- a form of one term
abbrev pub form : Ranges → Conds → List Expr → Form
form rs cs ps = record { head = []; terms = one_term rs cs ps }

-- a form of one term with one variable over leaf 0: its conditions, and its pieces
abbrev pub with_conds : Conds → Form
with_conds cs = form one_row cs []

abbrev pub with_pieces : List Expr → Form
with_pieces ps = form one_row no_conds ps

-- a form of one term with one variable over this range
abbrev pub over : FormRange → Form
over r = form (range_then r no_ranges) no_conds []

-- one variable over leaf 0 and one over leaf 1, and the other way round
abbrev pub rows_0_1 : Ranges
rows_0_1 = range_then (Rel 0) (range_then (Rel 1) no_ranges)

abbrev pub rows_1_0 : Ranges
rows_1_0 = range_then (Rel 1) (range_then (Rel 0) no_ranges)

-- each two symbols are the same
abbrev pub all_same : Known
all_same = record {
  rel = λ r s. true;
  attr = λ a b. true;
  pred = λ p q. true;
  unique = λ r a. false;
  not_null = λ r a. false;
  refs = λ r a s b. false;
  within = λ a b. true;
}
