use Rattle.std.proofs.Common.{◌≡◌}
use Rattle.std.specs.Vec.Iter.{into_iter_items}
use Rattle.wt_plan.specs.Tree.{plan_tree}
use Rattle.wt_query_plan.specs.Building as spec
use Rattle.wt_conjunct.specs.Views.{conjunct_trees}
use Rattle.wt_conjunct.proofs.stack.stacked.Given as goal

abbrev pub invariant-loop-conjunct : goal.invariant-loop-conjunct
invariant-loop-conjunct l = spec.stacked l.places (conjunct_trees (into_iter_items l.conjunct-iterator)) (plan_tree l.plan) ≡ spec.stacked l.places (conjunct_trees l.fn.conjuncts.items) (plan_tree l.fn.plan)
