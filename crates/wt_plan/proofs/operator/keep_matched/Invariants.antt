use Rattle.std.proofs.Common.{◌≡◌, ◌++◌, filter}
use Rattle.std.specs.Vec.Iter.{into_iter_items}
use Rattle.wt_value.specs.Values.{pick}
use Rattle.wt_plan.specs.Rows.{is_matched}
use Rattle.wt_plan.proofs.operator.keep_matched.Given as goal

abbrev pub invariant-loop-row : goal.invariant-loop-row
invariant-loop-row l =
    l.kept ++ filter (λ left. is_matched (pick l.cols left) l.rights) (into_iter_items l.row-iterator)
    ≡ filter (λ left. is_matched (pick l.cols left) l.rights) l.fn.rows
