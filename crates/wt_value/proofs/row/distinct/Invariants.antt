use Rattle.std.proofs.Common.{◌≡◌, ◌++◌, drop, filter}
use Rattle.wt_bag.proofs.Counting.{is_new}
use Rattle.wt_value.specs.Values.{row_same, distinct_rows}
use Rattle.wt_value.proofs.Comparing.{row_same_decides}
use Rattle.wt_value.proofs.row.distinct.Given as goal

-- what is kept, and then what is new of the rows to come, is the answer
abbrev pub invariant-loop-row : goal.invariant-loop-row
invariant-loop-row l = l.kept ++ filter (is_new row_same row_same_decides l.kept) (distinct_rows (drop l.row-index l.row-items)) ≡ distinct_rows l.row-items
