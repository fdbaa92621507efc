use Rattle.std.proofs.Common.{◌≡◌, take, map}
use Rattle.wt_instance.specs.Rows.{values}
use Rattle.wt_instance.proofs.named.rows_without_names.Given as goal

abbrev pub invariant-loop-row : goal.invariant-loop-row
invariant-loop-row l = l.plain ≡ map values (take l.row-index l.row-items)
