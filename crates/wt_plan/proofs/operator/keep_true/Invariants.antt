use Rattle.std.proofs.Common.{◌≡◌, ◌++◌, filter}
use Rattle.std.specs.Vec.Iter.{into_iter_items}
use Rattle.wt_pred.specs.Tree.{pred_tree}
use Rattle.wt_plan.specs.Rows.{passes}
use Rattle.wt_plan.proofs.operator.keep_true.Given as goal

abbrev pub invariant-loop-row : goal.invariant-loop-row
invariant-loop-row l = l.kept ++ filter (passes (pred_tree l.pred) l.cols) (into_iter_items l.row-iterator) ≡ filter (passes (pred_tree l.pred) l.cols) l.fn.rows
