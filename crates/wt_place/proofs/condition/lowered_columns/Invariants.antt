use Rattle.std.proofs.Common.{◌≡◌, ◌-◌, take, map}
use Rattle.wt_place.proofs.condition.lowered_columns.Given as goal

abbrev pub invariant-loop-k : goal.invariant-loop-k
invariant-loop-k l = l.lower ≡ map (λ k. k - l.width) (take l.k-index l.k-items)
