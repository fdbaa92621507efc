use Rattle.std.proofs.Common.{◌≡◌, length}
use Rattle.std.specs.Prelude.{nat_le}
use Rattle.std.specs.List.{list_all}
use Rattle.wt_plan.specs.Tree.{plan_tree}
use Rattle.wt_plan.specs.Measures as measures
use Rattle.wt_props.proofs.origins.all_right.Given as goal

abbrev pub invariant-cols : goal.invariant-cols
invariant-cols l =
    list_all (λ c. nat_le (measures.width (plan_tree l.left)) c) l.cols ≡ list_all (λ c. nat_le (measures.width (plan_tree l.left)) c) l.initial.cols

abbrev pub decreases-cols : goal.decreases-cols
decreases-cols l = length l.cols
