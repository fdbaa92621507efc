use Rattle.std.proofs.Common.{rules, ◌≡◌, ◌∷◌, ◌++◌, filter, not, ap, sym, ◌∙◌}
use Rattle.std.specs.Vec.Iter.{into_iter_items}
use Rattle.wt_place.specs.Views.{condition_tree, condition_trees, all_of}
use Rattle.wt_place.proofs.Sorting.{filter_step}
use Rattle.wt_place.proofs.condition.split_by_side.Goals as goal

pub loop-condition-preserved : goal.loop-condition-preserved
loop-condition-preserved c =
    let split : into_iter_items c.loop-condition.condition-iterator ≡ c.in-Some.condition ∷ into_iter_items c.next.new.self = search rules in
    let trees : condition_trees (into_iter_items c.loop-condition.condition-iterator) ≡ condition_tree c.in-Some.condition ∷ condition_trees (into_iter_items c.next.new.self) = ap condition_trees split in
    record {
      inside = filter_step (all_of c.args.side c.args.width) _ _ _ _ (condition_tree c.in-Some.condition) c.in_ok-sort_one.ensures.inside (ap (λ l. condition_trees c.loop-condition.split.inside.items ++ filter (all_of c.args.side c.args.width) l) (sym trees) ∙ c.loop-condition.invariant.inside);
      outside = filter_step (λ x. not (all_of c.args.side c.args.width x)) _ _ _ _ (condition_tree c.in-Some.condition) c.in_ok-sort_one.ensures.outside (ap (λ l. condition_trees c.loop-condition.split.outside.items ++ filter (λ x. not (all_of c.args.side c.args.width x)) l) (sym trees) ∙ c.loop-condition.invariant.outside);
    }
