use Rattle.std.proofs.Common.{◌≡◌, take}
use Rattle.wt_instance.specs.Rows.{values}
use Rattle.wt_instance.proofs.named.values_of.Given as goal

abbrev pub invariant-loop-cell : goal.invariant-loop-cell
invariant-loop-cell l = l.plain ≡ values (take l.cell-index l.cell-items)
