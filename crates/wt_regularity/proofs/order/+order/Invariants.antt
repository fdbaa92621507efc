use Rattle.std.proofs.Common.{◌≡◌, ◌≤◌}
use Rattle.wt_pred.specs.declared.tree.Preds.{size-Preds}
use Rattle.wt_pred.specs.Tree.{preds_tree}
use Rattle.wt_regularity.specs.Order.{after_all}
use Rattle.wt_regularity.proofs.order.+order.Given as goal

abbrev pub decreases-after : goal.decreases-after
decreases-after l = goal.size-after l

abbrev pub decreases-after_all : goal.decreases-after_all
decreases-after_all l = goal.size-after_all l

abbrev pub invariant-after_all-parts : goal.invariant-after_all-parts
invariant-after_all-parts l = record {
  smaller : size-Preds l.rest ≤ size-Preds l.fn.parts;
  same : after_all (preds_tree l.rest) l.next ≡ after_all (preds_tree l.fn.parts) l.fn.next;
}
