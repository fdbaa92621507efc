use Rattle.std.proofs.Common.{◌≡◌, ◌++◌, take}
use Rattle.std.specs.Prelude.{flat_map}
use Rattle.wt_plan.specs.Rows.{joined, or_nulls}
use Rattle.wt_plan.proofs.operator.left_join.Given as goal

abbrev pub invariant-loop-left : goal.invariant-loop-left
invariant-loop-left l = l.rows ≡ flat_map (λ left. or_nulls (left ++ l.nulls) (joined l.a l.b left l.rights)) (take l.left-index l.left-items)
