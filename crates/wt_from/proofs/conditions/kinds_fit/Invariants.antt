use Rattle.std.proofs.Common.{◌≡◌, map, length}
use Rattle.wt_plan.specs.Regular as regular
use Rattle.wt_query_plan.specs.Faults as faults
use Rattle.wt_from.proofs.conditions.kinds_fit.Given as goal

abbrev pub invariant-cols : goal.invariant-cols
invariant-cols l = faults.kinds_same (map (λ k. regular.kind_at l.kinds k) l.cols) l.wanted ≡ faults.kinds_same (map (λ k. regular.kind_at l.kinds k) l.initial.cols) l.initial.wanted

abbrev pub decreases-cols : goal.decreases-cols
decreases-cols l = length l.cols
