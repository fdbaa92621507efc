use Rattle.wt_bag.proofs.Counting.{distinct_init, distinct_next}
use Rattle.wt_value.specs.Values.{row_same}
use Rattle.wt_value.proofs.Comparing.{row_same_decides}
use Rattle.wt_value.proofs.row.distinct.Goals as goal

pub loop-row-init : goal.loop-row-init
loop-row-init c = rw c.new-kept.ensures (distinct_init row_same row_same_decides _)

pub loop-row-preserved : goal.loop-row-preserved
loop-row-preserved c =
    distinct_next row_same row_same_decides _ _ _ c.row-item.result c.loop-row.row-index c.loop-row-test.true c.row-item.is c.in_ok-keep.ensures c.loop-row.invariant
