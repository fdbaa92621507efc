-- Lists of predicates that grow at the end.
use Rattle.std.proofs.Common.{◌≡◌, List, [], ◌∷◌, ◌++◌, None, sym, ap, ◌∙◌}
use Rattle.wt_schema.specs.declared.schema.ColKind.{ColKind}
use Rattle.wt_pred.specs.declared.tree.Pred.{Pred}
use Rattle.wt_pred.specs.Tree.{pred_tree, pred_then}
use Rattle.wt_pred.proofs.Lists as lists
use Rattle.wt_pred.proofs.Lists.{before, before_last}
use Rattle.wt_ast.specs.Tree.{CondTree, CondTrees, cond_then}
use Rattle.wt_query_rows.specs.declared.scope.ScopeColumn.{ScopeColumn}
use Rattle.wt_query_plan.specs.Building as spec
use Rattle.wt_query_plan.specs.Faults as faults
use Rattle.wt_query_plan.specs.Faults.{Fault, first_of}

pub ruleset befores = (lists.before_none, lists.before_last)

-- a part without a fault, and its predicate at the end of those before
pub fault_next : (outer scope : List ScopeColumn) (kinds : List ColKind) (part : CondTree) (rest all more : CondTrees) → faults.test_fault outer scope kinds part ≡ None → all ≡ cond_then part more
    → faults.tests_fault outer scope kinds all ≡ faults.tests_fault outer scope kinds rest → faults.tests_fault outer scope kinds more ≡ faults.tests_fault outer scope kinds rest
fault_next outer scope kinds part rest all more none is so_far = ap (λ f. first_of f (faults.tests_fault outer scope kinds more)) (sym none) ∙ ap (faults.tests_fault outer scope kinds) (sym is) ∙ so_far

pub built_next : (scope : List ScopeColumn) (built now : List Pred) (p : Pred) (part : CondTree) (rest all more : CondTrees) → now ≡ built ++ p ∷ [] → pred_tree p ≡ spec.pred_of scope part → all ≡ cond_then part more
    → before built (spec.preds_of scope all) ≡ spec.preds_of scope rest → before now (spec.preds_of scope more) ≡ spec.preds_of scope rest
built_next scope built now p part rest all more pushed is split so_far =
    ap (λ l. before l (spec.preds_of scope more)) pushed ∙ before_last built p (spec.preds_of scope more) ∙ ap (λ q. before built (pred_then q (spec.preds_of scope more))) is ∙ ap (λ a. before built (spec.preds_of scope a)) (sym split) ∙ so_far
