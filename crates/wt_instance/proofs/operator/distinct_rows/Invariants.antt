use Rattle.std.proofs.Common.{◌≡◌, ◌++◌, filter}
use Rattle.std.specs.Vec.Iter.{into_iter_items}
use Rattle.wt_bag.specs.Bags.{distinct}
use Rattle.wt_bag.proofs.Counting.{is_new}
use Rattle.wt_instance.specs.Rows.{named_same}
use Rattle.wt_instance.proofs.NamedRows.{named_same_decides}
use Rattle.wt_instance.proofs.operator.distinct_rows.Given as goal

-- what is kept, and then what is new of the rows to come, is the answer
abbrev pub invariant-loop-row : goal.invariant-loop-row
invariant-loop-row l = record {
  seen : l.yielded ++ into_iter_items l.row-iterator ≡ l.fn.rows;
  kept : l.kept ++ filter (is_new named_same named_same_decides l.kept) (distinct named_same (into_iter_items l.row-iterator)) ≡ distinct named_same l.fn.rows;
}
