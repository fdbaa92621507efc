use Rattle.std.proofs.Common.{◌≡◌, take}
use Rattle.std.specs.Prelude.{flat_map}
use Rattle.wt_plan.specs.Rows.{joined}
use Rattle.wt_plan.proofs.operator.inner_join.Given as goal

abbrev pub invariant-loop-left : goal.invariant-loop-left
invariant-loop-left l = l.rows ≡ flat_map (λ left. joined l.a l.b left l.rights) (take l.left-index l.left-items)
