-- What stands for symbols that have nothing assigned.
use Rattle.std.specs.Prelude.{◌≡◌, []}
use Rattle.wt_pred.specs.Tree.{pred_tree, all_of, no_preds}
use Rattle.wt_plan.specs.Tree.{plan_tree, table}
use Rattle.wt_fill.specs.declared.given.Blank.{Blank}

pub record IsBlank (b : Blank) : Type 0 where
  pub plan : plan_tree b.plan ≡ table 0 0
  pub list : b.list ≡ []
  pub pred : pred_tree b.pred ≡ all_of no_preds
