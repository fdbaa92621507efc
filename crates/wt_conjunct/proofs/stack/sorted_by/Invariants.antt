use Rattle.std.proofs.Common.{◌≡◌, ◌++◌}
use Rattle.std.specs.Vec.Iter.{into_iter_items}
use Rattle.wt_query_plan.specs.Building as spec
use Rattle.wt_conjunct.specs.Views.{conjunct_trees}
use Rattle.wt_conjunct.proofs.stack.sorted_by.Given as goal

abbrev pub invariant-loop-conjunct : goal.invariant-loop-conjunct
invariant-loop-conjunct l = record {
  pairs : l.sorted.pairs.items ++ spec.pairs_of l.n (conjunct_trees (into_iter_items l.conjunct-iterator)) ≡ spec.pairs_of l.n (conjunct_trees l.fn.conjuncts.items);
  others : conjunct_trees l.sorted.others.items ++ spec.others_of l.n (conjunct_trees (into_iter_items l.conjunct-iterator)) ≡ spec.others_of l.n (conjunct_trees l.fn.conjuncts.items);
}
