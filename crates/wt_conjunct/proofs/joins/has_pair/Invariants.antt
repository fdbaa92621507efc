use Rattle.std.proofs.Common.{◌≡◌, ◌-◌, ◌≤◌, length, drop}
use Rattle.wt_query_plan.specs.Faults as faults
use Rattle.wt_conjunct.specs.Views.{conjunct_trees}
use Rattle.wt_conjunct.proofs.joins.has_pair.Given as goal

abbrev pub invariant-conjuncts : goal.invariant-conjuncts
invariant-conjuncts l = record {
  within : l.i ≤ length l.conjuncts;
  so_far : faults.unpaired l.n (conjunct_trees (drop l.i l.conjuncts)) ≡ faults.unpaired l.n (conjunct_trees l.conjuncts);
}

abbrev pub decreases-conjuncts : goal.decreases-conjuncts
decreases-conjuncts l = length l.conjuncts - l.i
