-- The tree of a predicate without where its parts lie in memory: whatever a clause says of a predicate, it says of this.
use Rattle.std.specs.Prelude.{ℕ, List, [], ◌∷◌}
use Rattle.wt_value.specs.declared.value.Value.{Value}
use Rattle.wt_pred.specs.declared.tree.Cmp.{Cmp}
use Rattle.wt_pred.specs.declared.tree.Operand.{Operand}
use Rattle.wt_pred.specs.declared.tree.Pred.{Pred}
use Rattle.wt_pred.specs.declared.tree.Pred.TheVariants.{Compare, IsNull, IsNotNull, InList, And, Or, Not'}
use Rattle.wt_pred.specs.declared.tree.Preds.{Preds}
use Rattle.wt_pred.specs.declared.tree.Preds.TheVariants.{Empty, More'}

-- A predicate, and predicates in order. The numbers are columns of a row, from 0.
mutual
  pub data PredTree : Type 0 where
    compare : Cmp → Operand → Operand → PredTree
    is_null : ℕ → PredTree
    is_not_null : ℕ → PredTree
    in_list : ℕ → List Value → PredTree
    all_of : PredTrees → PredTree
    any_of : PredTrees → PredTree
    negated : PredTree → PredTree

  pub data PredTrees : Type 0 where
    no_preds : PredTrees
    pred_then : PredTree → PredTrees → PredTrees

-- The functions that forget the pointers; in the patterns `p` and `q` are those.
abbrev mutual
  pub pred_tree : Pred → PredTree
  pred_tree (Compare cmp a b) = compare cmp a b
  pred_tree (IsNull column) = is_null column
  pred_tree (IsNotNull column) = is_not_null column
  pred_tree (InList column values) = in_list column values
  pred_tree (And parts) = all_of (preds_tree parts)
  pred_tree (Or parts) = any_of (preds_tree parts)
  pred_tree (Not' p inner) = negated (pred_tree inner)

  pub preds_tree : Preds → PredTrees
  preds_tree Empty = no_preds
  preds_tree (More' p part q rest) = pred_then (pred_tree part) (preds_tree rest)

-- the predicates of a list
abbrev pub pred_trees : List Pred → PredTrees
pred_trees [] = no_preds
pred_trees (p ∷ ps) = pred_then (pred_tree p) (pred_trees ps)
