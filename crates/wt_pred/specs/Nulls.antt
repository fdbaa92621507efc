-- Where a NULL at a column keeps a predicate from being True, told by its form.
use Rattle.std.specs.Prelude.{◌≡◌, ◌≢◌, ℕ, ◌==◌, ◌||◌, Bool, false, List, [], ◌∷◌}
use Rattle.std.specs.List.{list_any, list_all}
use Rattle.wt_value.specs.declared.value.Value.{Value}
use Rattle.wt_value.specs.declared.value.Value.TheVariants.{Null}
use Rattle.wt_value.specs.declared.value.Truth.TheVariants.{True}
use Rattle.wt_pred.specs.declared.tree.Operand.{Operand}
use Rattle.wt_pred.specs.declared.tree.Operand.TheVariants.{Column, Constant}
use Rattle.wt_pred.specs.Tree.{PredTree, PredTrees, compare, is_null, is_not_null, in_list, all_of, any_of, negated, no_preds, pred_then}
use Rattle.wt_value.specs.Values.{value_at}
use Rattle.wt_pred.specs.Meaning.{truth}

-- whether the operand is this column
abbrev pub is_column : ℕ → Operand → Bool
is_column pos (Column column) = pos == column
is_column pos (Constant value) = false

-- whether all of the tests hold, and whether one of them does
abbrev pub every : List Bool → Bool
every bs = list_all (λ b. b) bs

abbrev pub some_of : List Bool → Bool
some_of bs = list_any (λ b. b) bs

-- Whether a NULL at the column keeps the predicate from being True, and whether it keeps it from being False, as its form
-- tells.
abbrev mutual
  pub never_true : ℕ → PredTree → Bool
  never_true pos (compare cmp a b) = is_column pos a || is_column pos b
  never_true pos (is_null column) = false
  never_true pos (is_not_null column) = pos == column
  never_true pos (in_list column values) = pos == column
  never_true pos (all_of parts) = some_of (nevers_true pos parts)
  never_true pos (any_of parts) = every (nevers_true pos parts)
  never_true pos (negated inner) = never_false pos inner

  -- an IN list of no constants is False whatever the column has
  pub never_false : ℕ → PredTree → Bool
  never_false pos (compare cmp a b) = is_column pos a || is_column pos b
  never_false pos (is_null column) = pos == column
  never_false pos (is_not_null column) = false
  never_false pos (in_list column []) = false
  never_false pos (in_list column (v ∷ vs)) = pos == column
  never_false pos (all_of parts) = every (nevers_false pos parts)
  never_false pos (any_of parts) = some_of (nevers_false pos parts)
  never_false pos (negated inner) = never_true pos inner

  pub nevers_true : ℕ → PredTrees → List Bool
  nevers_true pos no_preds = []
  nevers_true pos (pred_then p rest) = never_true pos p ∷ nevers_true pos rest

  pub nevers_false : ℕ → PredTrees → List Bool
  nevers_false pos no_preds = []
  nevers_false pos (pred_then p rest) = never_false pos p ∷ nevers_false pos rest

-- no row with NULL at the column, or with no such column, makes the predicate True
abbrev pub RejectsNull : ℕ → PredTree → Type 0
RejectsNull pos p = (row : List Value) → value_at row pos ≡ Null → truth p row ≢ True
