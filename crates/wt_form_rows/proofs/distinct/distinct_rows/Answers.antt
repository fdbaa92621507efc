use Rattle.wt_bag.proofs.Counting.{distinct_init, distinct_next}
use Rattle.wt_rows.specs.FormRows.{form_row_same}
use Rattle.wt_rows.proofs.Sums.{form_rows_decide}
use Rattle.wt_form_rows.proofs.distinct.distinct_rows.Goals as goal

pub loop-row-init : goal.loop-row-init
loop-row-init c = rw c.new-kept.ensures (distinct_init form_row_same form_rows_decide _)

pub loop-row-preserved : goal.loop-row-preserved
loop-row-preserved c =
    distinct_next form_row_same form_rows_decide _ _ _ c.row-item.result c.loop-row.row-index c.loop-row-test.true c.row-item.is c.in_ok-keep.ensures c.loop-row.invariant
