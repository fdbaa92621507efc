use Rattle.wt_plan.specs.Measures.{node_count}
use Rattle.wt_draft.specs.Roots.{any_tree}
use Rattle.wt_regularity.proofs.deciding.+kinds_fit.Given as goal

abbrev pub decreases-kinds_fit : goal.decreases-kinds_fit
decreases-kinds_fit l = node_count (any_tree l.plan)
