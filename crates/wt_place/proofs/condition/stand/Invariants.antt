use Rattle.std.proofs.Common.{◌≡◌}
use Rattle.std.specs.Vec.Iter.{into_iter_items}
use Rattle.wt_plan.specs.Tree.{plan_tree}
use Rattle.wt_place.specs.Placing as spec
use Rattle.wt_place.specs.Views.{condition_trees}
use Rattle.wt_place.proofs.condition.stand.Given as goal

abbrev pub invariant-loop-condition : goal.invariant-loop-condition
invariant-loop-condition l = spec.stand (condition_trees (into_iter_items l.condition-iterator)) (plan_tree l.plan) ≡ spec.stand (condition_trees l.fn.conditions.items) (plan_tree l.fn.plan)
