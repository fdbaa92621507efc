use Rattle.std.proofs.Common.{◌≡◌, ◌++◌, take}
use Rattle.wt_instance.proofs.named.push_cells.Given as goal

abbrev pub invariant-loop-cell : goal.invariant-loop-cell
invariant-loop-cell l = l.row ≡ l.fn.row ++ take l.cell-index l.cell-items
