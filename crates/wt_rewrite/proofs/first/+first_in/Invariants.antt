use Rattle.wt_plan.specs.Tree.{plan_tree}
use Rattle.wt_plan.specs.Measures.{node_count}
use Rattle.wt_rewrite.proofs.first.+first_in.Given as goal

abbrev pub decreases-first_in : goal.decreases-first_in
decreases-first_in g l = node_count (plan_tree l.subplan.now)
