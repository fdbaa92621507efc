use Rattle.std.proofs.Common.{◌≡◌, map, take}
use Rattle.wt_query_plan.specs.Building as spec
use Rattle.wt_conjunct.proofs.stack.seconds_at.Given as goal

abbrev pub invariant-loop-pair : goal.invariant-loop-pair
invariant-loop-pair l = l.at ≡ map (spec.at_place l.places) (spec.seconds (take l.pair-index l.pairs))
