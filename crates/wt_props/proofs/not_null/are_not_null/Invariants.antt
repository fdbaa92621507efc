use Rattle.std.proofs.Common.{◌≡◌, length}
use Rattle.std.specs.List.{list_all}
use Rattle.wt_plan.specs.Tree.{plan_tree}
use Rattle.wt_known.specs.Facts.{not_null}
use Rattle.wt_props.proofs.not_null.are_not_null.Given as goal

abbrev pub invariant-cols : goal.invariant-cols
invariant-cols l = list_all (not_null l.tables (plan_tree l.plan)) l.cols ≡ list_all (not_null l.tables (plan_tree l.plan)) l.initial.cols

abbrev pub decreases-cols : goal.decreases-cols
decreases-cols l = length l.cols
