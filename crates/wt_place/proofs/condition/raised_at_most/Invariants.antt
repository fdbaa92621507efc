use Rattle.std.proofs.Common.{◌≡◌, ◌+◌, ◌-◌, ◌^◌, take, map}
use Rattle.std.specs.Prelude.{min}
use Rattle.wt_place.proofs.condition.raised_at_most.Given as goal

abbrev pub invariant-loop-k : goal.invariant-loop-k
invariant-loop-k l = l.higher ≡ map (λ k. min (2 ^ 32 - 1) (l.shift + k)) (take l.k-index l.k-items)
