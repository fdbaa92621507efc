use Rattle.std.proofs.Common.{◌≡◌, ◌-◌, ◌++◌, map}
use Rattle.std.specs.Vec.Iter.{into_iter_items}
use Rattle.wt_place.specs.Placing.{moved}
use Rattle.wt_place.specs.Views.{condition_trees}
use Rattle.wt_place.proofs.condition.all_lowered.Given as goal

abbrev pub invariant-loop-condition : goal.invariant-loop-condition
invariant-loop-condition l =
    condition_trees l.lower.items ++ map (moved (λ k. k - l.width)) (condition_trees (into_iter_items l.condition-iterator))
    ≡ map (moved (λ k. k - l.width)) (condition_trees l.fn.conditions.items)
