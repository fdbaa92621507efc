use Rattle.std.proofs.Common.{◌≡◌, ◌++◌, filter}
use Rattle.std.specs.List.{list_any}
use Rattle.std.specs.Vec.Iter.{into_iter_items}
use Rattle.wt_value.specs.Values.{row_matches}
use Rattle.wt_instance.specs.Rows.{values_at}
use Rattle.wt_instance.proofs.operator.keep_matched.Given as goal

abbrev pub invariant-loop-row : goal.invariant-loop-row
invariant-loop-row l =
    l.kept ++ filter (λ left. list_any (λ right. row_matches (values_at l.anchors l.instance l.list left) right) l.rights) (into_iter_items l.row-iterator)
    ≡ filter (λ left. list_any (λ right. row_matches (values_at l.anchors l.instance l.list left) right) l.rights) l.fn.rows
