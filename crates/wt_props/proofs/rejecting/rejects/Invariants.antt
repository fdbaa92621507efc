use Rattle.std.proofs.Common.{◌≡◌, ◌+◌, length}
use Rattle.wt_pred.specs.Tree.{pred_tree}
use Rattle.wt_known.specs.Facts.{rejected}
use Rattle.wt_props.proofs.rejecting.rejects.Given as goal

abbrev pub invariant-cols : goal.invariant-cols
invariant-cols l = record {
  same : rejected (pred_tree l.pred) l.cols l.place l.column ≡ rejected (pred_tree l.pred) l.initial.cols 0 l.column;
  counted : l.place + length l.cols ≡ length l.initial.cols;
}

abbrev pub decreases-cols : goal.decreases-cols
decreases-cols l = length l.cols
