-- What a predicate says of a row, in SQL's three-valued logic.
use Rattle.std.specs.Prelude.{ℕ, List, [], ◌∷◌, map, int_lt}
use Rattle.std.specs.Ordering.{nat_cmp, is_lt}
use Rattle.std.specs.Cmp.Lexicographic.{slice_cmp}
use Rattle.wt_value.specs.declared.value.Truth.{Truth}
use Rattle.wt_value.specs.declared.value.Truth.TheVariants.{False, Unknown, True}
use Rattle.wt_value.specs.declared.value.Value.{Value}
use Rattle.wt_value.specs.declared.value.Value.TheVariants.{Null, Int, Text}
use Rattle.wt_value.specs.Values.{value_at}
use Rattle.wt_value.specs.Truths as truths_of
use Rattle.wt_value.specs.Truths.{truth_of, and_of, or_of, not_of, equality}
use Rattle.wt_pred.specs.declared.tree.Cmp.{Cmp}
use Rattle.wt_pred.specs.declared.tree.Cmp.TheVariants.{Eq, Ne, Lt, Le, Gt, Ge}
use Rattle.wt_pred.specs.declared.tree.Operand.{Operand}
use Rattle.wt_pred.specs.declared.tree.Operand.TheVariants.{Column, Constant}
use Rattle.wt_pred.specs.Tree.{PredTree, PredTrees, compare, is_null, is_not_null, in_list, all_of, any_of, negated, no_preds, pred_then}

-- the value that an operand stands for in the row
abbrev pub value_of : List Value → Operand → Value
value_of row (Column column) = value_at row column
value_of row (Constant value) = value

-- whether the first value is less, texts being compared as the lists of their bytes: Unknown where a value is NULL or the
-- kinds differ
abbrev pub less : Value → Value → Truth
less (Int x) (Int y) = truth_of (int_lt x y)
less (Text s) (Text t) = truth_of (is_lt (slice_cmp nat_cmp s t))
less _ _ = Unknown

-- a comparison of two values
abbrev pub comparison : Cmp → Value → Value → Truth
comparison Eq a b = equality a b
comparison Ne a b = not_of (equality a b)
comparison Lt a b = less a b
comparison Le a b = not_of (less b a)
comparison Gt a b = less b a
comparison Ge a b = not_of (less a b)

-- the least of truth values under False < Unknown < True; of none it is True
abbrev pub least : List Truth → Truth
least [] = True
least (t ∷ ts) = and_of t (least ts)

-- the greatest of truth values under False < Unknown < True; of none it is False
abbrev pub greatest : List Truth → Truth
greatest [] = False
greatest (t ∷ ts) = or_of t (greatest ts)

-- The truth of a predicate at a row: AND is the least of its parts, OR the greatest, an IN list the greatest of its
-- equalities.
abbrev mutual
  pub truth : PredTree → List Value → Truth
  truth (compare cmp a b) row = comparison cmp (value_of row a) (value_of row b)
  truth (is_null column) row = truths_of.is_null (value_at row column)
  truth (is_not_null column) row = not_of (truths_of.is_null (value_at row column))
  truth (in_list column values) row = greatest (map (equality (value_at row column)) values)
  truth (all_of parts) row = least (truths parts row)
  truth (any_of parts) row = greatest (truths parts row)
  truth (negated inner) row = not_of (truth inner row)

  pub truths : PredTrees → List Value → List Truth
  truths no_preds row = []
  truths (pred_then p rest) row = truth p row ∷ truths rest row
