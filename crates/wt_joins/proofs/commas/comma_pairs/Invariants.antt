use Rattle.std.proofs.Common.{◌≡◌, ◌++◌, length, filter}
use Rattle.wt_query_plan.specs.Building as spec
use Rattle.wt_conjunct.specs.Views.{conjunct_trees}
use Rattle.wt_joins.proofs.commas.comma_pairs.Given as goal

abbrev pub invariant-conjuncts : goal.invariant-conjuncts
invariant-conjuncts l = l.pairs.items ++ spec.pairs_of l.n (filter (spec.within l.m) (conjunct_trees l.rest)) ≡ spec.pairs_of l.n (filter (spec.within l.m) (conjunct_trees l.conjuncts))

abbrev pub decreases-conjuncts : goal.decreases-conjuncts
decreases-conjuncts l = length l.rest
