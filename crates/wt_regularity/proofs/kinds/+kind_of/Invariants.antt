use Rattle.wt_plan.specs.Measures.{node_count}
use Rattle.wt_draft.specs.Roots.{any_tree}
use Rattle.wt_regularity.proofs.kinds.+kind_of.Given as goal

abbrev pub decreases-kind_of : goal.decreases-kind_of
decreases-kind_of l = node_count (any_tree l.plan)
