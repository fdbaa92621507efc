use Rattle.std.proofs.Common.{◌≡◌, ◌-◌, map, take}
use Rattle.wt_plan.specs.Tree.{plan_tree}
use Rattle.wt_plan.specs.Measures as measures
use Rattle.wt_props.proofs.origins.all_behind.Given as goal

abbrev pub invariant-loop-column : goal.invariant-loop-column
invariant-loop-column l = l.out ≡ map (λ c. c - measures.width (plan_tree l.left)) (take l.column-index l.cols)
