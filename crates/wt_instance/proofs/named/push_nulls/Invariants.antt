use Rattle.std.proofs.Common.{◌≡◌, ◌++◌, take}
use Rattle.wt_instance.specs.Rows.{nulls}
use Rattle.wt_instance.proofs.named.push_nulls.Given as goal

abbrev pub invariant-loop-column : goal.invariant-loop-column
invariant-loop-column l = l.row ≡ l.fn.row ++ nulls (take l.column-index l.column-items)
