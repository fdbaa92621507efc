use Rattle.wt_plan.specs.Measures.{node_count}
use Rattle.wt_draft.specs.Roots.{any_tree}
use Rattle.wt_regularity.proofs.widths.+fitting_width.Given as goal

abbrev pub decreases-fitting_width : goal.decreases-fitting_width
decreases-fitting_width l = node_count (any_tree l.plan)
