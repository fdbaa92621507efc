use Rattle.std.proofs.Common.{◌≡◌, ◌-◌, map, take}
use Rattle.wt_query_plan.specs.Building as spec
use Rattle.wt_conjunct.proofs.stack.right_places.Given as goal

abbrev pub invariant-loop-k : goal.invariant-loop-k
invariant-loop-k l = l.at ≡ map (λ k. spec.at_place l.places (k - l.n)) (take l.k-index l.cols)
