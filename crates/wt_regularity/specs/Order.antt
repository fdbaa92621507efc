-- The places that a predicate uses, in the order of first use.
use Rattle.std.specs.Prelude.{◌+◌, ◌&&◌, ◌==◌, ℕ, Bool, true, not, nat_lt, Option, Some, None, List, [], ◌∷◌, if◌then◌else◌}
use Rattle.std.specs.List.{list_any}
use Rattle.wt_pred.specs.declared.tree.Operand.{Operand}
use Rattle.wt_pred.specs.declared.tree.Operand.TheVariants.{Column, Constant}
use Rattle.wt_pred.specs.Tree.{PredTree, PredTrees, compare, is_null, is_not_null, in_list, all_of, any_of, negated, no_preds, pred_then}
use Rattle.wt_regularity.specs.Widths.{and_then}

abbrev pub stands_in : ℕ → List ℕ → Bool
stands_in column cols = list_any (λ d. column == d) cols

abbrev pub are_apart : List ℕ → Bool
are_apart [] = true
are_apart (c ∷ cols) = not (stands_in c cols) && are_apart cols

-- the least number that is not yet used, after one more use; nothing where the use is of a greater one
abbrev pub after_column : ℕ → ℕ → Option ℕ
after_column column next = if nat_lt column next then Some next else (if column == next then Some (column + 1) else None)

abbrev pub after_operand : Operand → ℕ → Option ℕ
after_operand (Column column) next = after_column column next
after_operand (Constant value) next = Some next

abbrev mutual
  pub after : PredTree → ℕ → Option ℕ
  after (compare cmp a b) next = and_then (after_operand a next) (after_operand b)
  after (is_null column) next = after_column column next
  after (is_not_null column) next = after_column column next
  after (in_list column values) next = after_column column next
  after (all_of parts) next = after_all parts next
  after (any_of parts) next = after_all parts next
  after (negated inner) next = after inner next

  pub after_all : PredTrees → ℕ → Option ℕ
  after_all no_preds next = Some next
  after_all (pred_then p rest) next = and_then (after p next) (after_all rest)
