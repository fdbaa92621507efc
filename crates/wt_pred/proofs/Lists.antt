-- Lists of predicates that grow at the end.
use Rattle.std.proofs.Common.{◌≡◌, List, [], ◌∷◌, ◌++◌, refl, ap}
use Rattle.wt_pred.specs.declared.tree.Pred.{Pred}
use Rattle.wt_pred.specs.Tree.{PredTrees, no_preds, pred_then, pred_tree, pred_trees}

-- predicates, and others behind them
abbrev pub before : List Pred → PredTrees → PredTrees
before [] others = others
before (p ∷ ps) others = pred_then (pred_tree p) (before ps others)

pub before_none : (ps : List Pred) → before ps no_preds ≡ pred_trees ps
before_none [] = refl
before_none (p ∷ ps) = ap (pred_then (pred_tree p)) (before_none ps)

pub before_last : (ps : List Pred) (p : Pred) (others : PredTrees) → before (ps ++ p ∷ []) others ≡ before ps (pred_then (pred_tree p) others)
before_last [] p others = refl
before_last (x ∷ ps) p others = ap (pred_then (pred_tree x)) (before_last ps p others)

pub ruleset befores = (before_none, before_last)
