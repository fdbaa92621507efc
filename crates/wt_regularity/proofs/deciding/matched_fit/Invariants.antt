use Rattle.std.proofs.Common.{◌≡◌, ◌+◌, length}
use Rattle.wt_plan.specs.Regular.{plan_kinds}
use Rattle.wt_draft.specs.Roots.{any_tree}
use Rattle.wt_regularity.specs.Deciding.{matched_from}
use Rattle.wt_regularity.proofs.deciding.matched_fit.Given as goal

abbrev pub invariant-cols : goal.invariant-cols
invariant-cols l = record {
  same : matched_from (plan_kinds l.tables (any_tree l.left)) (plan_kinds l.tables (any_tree l.right)) l.place l.cols
      ≡ matched_from (plan_kinds l.tables (any_tree l.left)) (plan_kinds l.tables (any_tree l.right)) 0 l.initial.cols;
  counted : l.place + length l.cols ≡ length l.initial.cols;
}

abbrev pub decreases-cols : goal.decreases-cols
decreases-cols l = length l.cols
