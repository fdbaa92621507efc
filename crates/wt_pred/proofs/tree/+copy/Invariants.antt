use Rattle.std.proofs.Common.{◌≡◌, ◌≤◌}
use Rattle.wt_pred.specs.declared.tree.Preds.{size-Preds}
use Rattle.wt_pred.specs.Tree.{preds_tree}
use Rattle.wt_pred.proofs.Lists.{before}
use Rattle.wt_pred.proofs.tree.+copy.Given as goal

abbrev pub decreases-Pred::copy : goal.decreases-Pred::copy
decreases-Pred::copy l = goal.size-Pred::copy l

abbrev pub decreases-copy_parts : goal.decreases-copy_parts
decreases-copy_parts l = goal.size-copy_parts l

abbrev pub invariant-copy_parts-parts : goal.invariant-copy_parts-parts
invariant-copy_parts-parts l = record {
  smaller : size-Preds l.rest ≤ size-Preds l.fn.parts;
  copied_so_far : before l.copied.items (preds_tree l.rest) ≡ preds_tree l.fn.parts;
}
