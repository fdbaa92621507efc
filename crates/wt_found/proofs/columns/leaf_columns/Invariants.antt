use Rattle.std.proofs.Common.{◌≡◌, ◌-◌, ◌++◌}
use Rattle.wt_instance.specs.Rows as rows
use Rattle.wt_found.specs.Seen.{named}
use Rattle.wt_found.proofs.columns.leaf_columns.Given as goal

abbrev pub invariant-loop-number : goal.invariant-loop-number
invariant-loop-number l = named l.columns.items ++ rows.leaf_columns l.leaf l.number (l.width - l.number) ≡ rows.leaf_columns l.leaf 0 l.width
