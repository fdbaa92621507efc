use Rattle.std.proofs.Common.{◌≡◌, take, map}
use Rattle.wt_value.specs.Values.{pick}
use Rattle.wt_plan.proofs.operator.project.Given as goal

abbrev pub invariant-loop-row : goal.invariant-loop-row
invariant-loop-row l = l.picked ≡ map (pick l.cols) (take l.row-index l.row-items)
