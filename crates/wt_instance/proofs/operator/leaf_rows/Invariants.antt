use Rattle.std.proofs.Common.{◌≡◌, take, map}
use Rattle.wt_instance.specs.Rows.{named}
use Rattle.wt_instance.proofs.operator.leaf_rows.Given as goal

abbrev pub invariant-loop-row : goal.invariant-loop-row
invariant-loop-row l = l.rows ≡ map (named l.leaf 0) (take l.row-index l.row-items)
