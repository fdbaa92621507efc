use Rattle.std.proofs.Common.{◌≡◌, ◌++◌, drop, filter}
use Rattle.wt_bag.specs.Bags.{distinct}
use Rattle.wt_bag.proofs.Counting.{is_new}
use Rattle.wt_rows.specs.FormRows.{form_row_same}
use Rattle.wt_rows.proofs.Sums.{form_rows_decide}
use Rattle.wt_form_rows.proofs.distinct.distinct_rows.Given as goal

-- what is kept, and then what is new of the rows to come, is the answer
abbrev pub invariant-loop-row : goal.invariant-loop-row
invariant-loop-row l = l.kept ++ filter (is_new form_row_same form_rows_decide l.kept) (distinct form_row_same (drop l.row-index l.row-items)) ≡ distinct form_row_same l.row-items
