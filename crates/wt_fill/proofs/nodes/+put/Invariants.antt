use Rattle.std.proofs.Common.{◌+◌, ◌*◌}
use Rattle.wt_plan.specs.Tree.{plan_tree}
use Rattle.wt_plan.specs.Measures.{node_count}
use Rattle.wt_fill.proofs.nodes.+put.Given as goal

abbrev pub decreases-put_at : goal.decreases-put_at
decreases-put_at l = 2 * node_count (plan_tree l.plan.now)

abbrev pub decreases-put_in_one : goal.decreases-put_in_one
decreases-put_in_one l = 1 + 2 * (node_count (plan_tree l.left.now) + node_count (plan_tree l.right.now))
