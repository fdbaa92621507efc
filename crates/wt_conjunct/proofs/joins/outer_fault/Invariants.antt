use Rattle.std.proofs.Common.{◌≡◌, length}
use Rattle.wt_query_plan.specs.Faults as faults
use Rattle.wt_conjunct.specs.Views.{conjunct_trees, is_on}
use Rattle.wt_conjunct.proofs.joins.outer_fault.Given as goal

abbrev pub invariant-conjuncts : goal.invariant-conjuncts
invariant-conjuncts l = faults.outer_fault (is_on l.padded l.n) l.n (conjunct_trees l.conjuncts) l.at ≡ faults.outer_fault (is_on l.padded l.n) l.n (conjunct_trees l.initial.conjuncts) l.initial.at

abbrev pub decreases-conjuncts : goal.decreases-conjuncts
decreases-conjuncts l = length l.conjuncts
