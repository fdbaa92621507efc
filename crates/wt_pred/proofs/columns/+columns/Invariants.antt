use Rattle.std.proofs.Common.{◌≡◌, ◌≤◌, nat_eq}
use Rattle.indexmap.specs.IndexSet.{insert_all}
use Rattle.wt_pred.specs.declared.tree.Preds.{size-Preds}
use Rattle.wt_pred.specs.Tree.{preds_tree}
use Rattle.wt_pred.specs.Columns.{occurring_in}
use Rattle.wt_pred.proofs.columns.+columns.Given as goal

abbrev pub decreases-add_columns : goal.decreases-add_columns
decreases-add_columns l = goal.size-add_columns l

abbrev pub decreases-add_parts : goal.decreases-add_parts
decreases-add_parts l = goal.size-add_parts l

abbrev pub invariant-add_parts-parts : goal.invariant-add_parts-parts
invariant-add_parts-parts l = record {
  smaller : size-Preds l.rest ≤ size-Preds l.fn.parts;
  inserted : insert_all nat_eq l.seen.keys (occurring_in (preds_tree l.rest)) ≡ insert_all nat_eq l.fn.seen.keys (occurring_in (preds_tree l.fn.parts));
}
