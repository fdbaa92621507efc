use Rattle.std.proofs.Common.{◌≡◌, length}
use Rattle.wt_plan.specs.Regular.{plan_kinds, kinds_at}
use Rattle.wt_draft.specs.Roots.{any_tree}
use Rattle.wt_regularity.specs.Kinds.{all_same}
use Rattle.wt_regularity.proofs.deciding.pairs_fit.Given as goal

abbrev pub invariant-pairs : goal.invariant-pairs
invariant-pairs l =
    all_same (kinds_at (plan_kinds l.tables (any_tree l.left)) l.a) (kinds_at (plan_kinds l.tables (any_tree l.right)) l.b)
    ≡ all_same (kinds_at (plan_kinds l.tables (any_tree l.left)) l.initial.a) (kinds_at (plan_kinds l.tables (any_tree l.right)) l.initial.b)

abbrev pub decreases-pairs : goal.decreases-pairs
decreases-pairs l = length l.a
