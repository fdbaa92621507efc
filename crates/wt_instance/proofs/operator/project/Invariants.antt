use Rattle.std.proofs.Common.{◌≡◌, take, map}
use Rattle.wt_instance.specs.Rows.{cells_at}
use Rattle.wt_instance.proofs.operator.project.Given as goal

abbrev pub invariant-loop-row : goal.invariant-loop-row
invariant-loop-row l = l.picked ≡ map (cells_at l.anchors l.instance l.list) (take l.row-index l.row-items)
