use Rattle.std.proofs.Common.{◌≡◌, length}
use Rattle.wt_plan.specs.Tree.{plan_tree}
use Rattle.wt_plan.specs.Measures as measures
use Rattle.wt_known.specs.Sets.{all_below}
use Rattle.wt_props.proofs.origins.all_left.Given as goal

abbrev pub invariant-cols : goal.invariant-cols
invariant-cols l = all_below (measures.width (plan_tree l.left)) l.cols ≡ all_below (measures.width (plan_tree l.left)) l.initial.cols

abbrev pub decreases-cols : goal.decreases-cols
decreases-cols l = length l.cols
