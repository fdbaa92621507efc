use Rattle.std.proofs.Common.{◌≡◌, ◌++◌, not, filter}
use Rattle.std.specs.Vec.Iter.{into_iter_items}
use Rattle.wt_place.specs.Views.{condition_trees, all_of}
use Rattle.wt_place.proofs.condition.split_by_side.Given as goal

abbrev pub invariant-loop-condition : goal.invariant-loop-condition
invariant-loop-condition l = record {
  inside : condition_trees l.split.inside.items ++ filter (all_of l.side l.width) (condition_trees (into_iter_items l.condition-iterator)) ≡ filter (all_of l.side l.width) (condition_trees l.fn.conditions.items);
  outside : condition_trees l.split.outside.items ++ filter (λ c. not (all_of l.side l.width c)) (condition_trees (into_iter_items l.condition-iterator)) ≡ filter (λ c. not (all_of l.side l.width c)) (condition_trees l.fn.conditions.items);
}
