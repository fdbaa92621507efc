use Rattle.std.proofs.Common.{◌≡◌, take, map}
use Rattle.wt_value.specs.Values.{value_at}
use Rattle.wt_plan.proofs.operator.pick.Given as goal

abbrev pub invariant-loop-place : goal.invariant-loop-place
invariant-loop-place l = l.picked ≡ map (value_at l.row) (take l.place-index l.place-items)
