use Rattle.std.proofs.Common.{◌≡◌, ◌++◌, ◌-◌}
use Rattle.wt_instance.specs.Rows.{leaf_columns}
use Rattle.wt_instance.proofs.evaluate.push_leaf_columns.Given as goal

abbrev pub invariant-loop-number : goal.invariant-loop-number
invariant-loop-number l = l.columns ++ leaf_columns l.leaf l.number (l.width - l.number) ≡ l.fn.columns ++ leaf_columns l.leaf 0 l.width
