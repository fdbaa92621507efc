use Rattle.std.proofs.Common.{◌≡◌, ◌≤◌, ◌↔◌}
use Rattle.wt_pred.specs.declared.tree.Preds.{size-Preds}
use Rattle.wt_pred.specs.Tree.{preds_tree}
use Rattle.wt_pred.proofs.tree.+same.Given as goal

abbrev pub decreases-Pred::same : goal.decreases-Pred::same
decreases-Pred::same l = goal.size-Pred::same l

abbrev pub decreases-same_parts : goal.decreases-same_parts
decreases-same_parts l = goal.size-same_parts l

abbrev pub invariant-same_parts-parts : goal.invariant-same_parts-parts
invariant-same_parts-parts l = record {
  smaller : size-Preds l.rest ≤ size-Preds l.fn.parts;
  told : (preds_tree l.rest ≡ preds_tree l.theirs) ↔ (preds_tree l.fn.parts ≡ preds_tree l.fn.others);
}
