use Rattle.std.proofs.Common.{◌≡◌, take}
use Rattle.wt_plan.specs.Tree.{plan_tree}
use Rattle.wt_plan.specs.Measures as measures
use Rattle.wt_known.specs.Sets as facts
use Rattle.wt_unique.proofs.joining.rights.Given as goal

abbrev pub invariant-loop-column : goal.invariant-loop-column
invariant-loop-column l = l.out ≡ facts.rights (measures.width (plan_tree l.left)) (take l.column-index l.set)
