use Rattle.std.proofs.Common.{◌≡◌, ◌++◌, filter}
use Rattle.std.specs.Vec.Iter.{into_iter_items}
use Rattle.wt_instance.specs.Instances.{is_true}
use Rattle.wt_instance.specs.Rows.{values_at}
use Rattle.wt_instance.proofs.operator.keep_true.Given as goal

abbrev pub invariant-loop-row : goal.invariant-loop-row
invariant-loop-row l =
    l.kept ++ filter (λ row. is_true l.instance l.pred (values_at l.anchors l.instance l.list row)) (into_iter_items l.row-iterator)
    ≡ filter (λ row. is_true l.instance l.pred (values_at l.anchors l.instance l.list row)) l.fn.rows
