use Rattle.std.proofs.Common.{◌≡◌, ◌++◌, length}
use Rattle.wt_plan.specs.Tree.{plan_tree}
use Rattle.wt_plan.specs.Measures as measures
use Rattle.wt_unique.specs.Asking.{added_rights}
use Rattle.wt_unique.proofs.joining.add_rights.Given as goal

abbrev pub invariant-pairs : goal.invariant-pairs
invariant-pairs l =
    l.out ++ added_rights (measures.width (plan_tree l.left)) l.a l.b l.set ≡ l.initial.out ++ added_rights (measures.width (plan_tree l.left)) l.initial.a l.initial.b l.set

abbrev pub decreases-pairs : goal.decreases-pairs
decreases-pairs l = length l.a
