-- The columns of a predicate, and the predicate with its columns renumbered.
use Rattle.std.specs.Prelude.{ℕ, List, [], ◌∷◌, ◌++◌, nat_eq}
use Rattle.std.specs.List.{position_or_len}
use Rattle.wt_bag.specs.Bags.{distinct}
use Rattle.wt_pred.specs.declared.tree.Operand.{Operand}
use Rattle.wt_pred.specs.declared.tree.Operand.TheVariants.{Column, Constant}
use Rattle.wt_pred.specs.Tree.{PredTree, PredTrees, compare, is_null, is_not_null, in_list, all_of, any_of, negated, no_preds, pred_then}

abbrev pub operand_columns : Operand → List ℕ
operand_columns (Column column) = column ∷ []
operand_columns (Constant value) = []

-- the columns that a predicate names, in order, each as often as it is named
abbrev mutual
  pub occurring : PredTree → List ℕ
  occurring (compare cmp a b) = operand_columns a ++ operand_columns b
  occurring (is_null column) = column ∷ []
  occurring (is_not_null column) = column ∷ []
  occurring (in_list column values) = column ∷ []
  occurring (all_of parts) = occurring_in parts
  occurring (any_of parts) = occurring_in parts
  occurring (negated inner) = occurring inner

  pub occurring_in : PredTrees → List ℕ
  occurring_in no_preds = []
  occurring_in (pred_then p rest) = occurring p ++ occurring_in rest

-- its columns, each once, in the order of their first use
abbrev pub columns : PredTree → List ℕ
columns p = distinct nat_eq (occurring p)

abbrev pub operand_renumbered : (ℕ → ℕ) → Operand → Operand
operand_renumbered number (Column column) = Column (number column)
operand_renumbered number (Constant value) = Constant value

-- the predicate in which each column has the number that the function gives it
abbrev mutual
  pub renumbered : (ℕ → ℕ) → PredTree → PredTree
  renumbered number (compare cmp a b) = compare cmp (operand_renumbered number a) (operand_renumbered number b)
  renumbered number (is_null column) = is_null (number column)
  renumbered number (is_not_null column) = is_not_null (number column)
  renumbered number (in_list column values) = in_list (number column) values
  renumbered number (all_of parts) = all_of (all_renumbered number parts)
  renumbered number (any_of parts) = any_of (all_renumbered number parts)
  renumbered number (negated inner) = negated (renumbered number inner)

  pub all_renumbered : (ℕ → ℕ) → PredTrees → PredTrees
  all_renumbered number no_preds = no_preds
  all_renumbered number (pred_then p rest) = pred_then (renumbered number p) (all_renumbered number rest)

-- the first place of a column among the columns, counted from 0
abbrev pub place_in : List ℕ → ℕ → ℕ
place_in cols column = position_or_len (nat_eq column) cols
