use Rattle.std.proofs.Common.{◌≡◌, length}
use Rattle.std.specs.List.{list_any}
use Rattle.wt_conjunct.specs.Views.{conjunct_trees}
use Rattle.wt_joins.specs.Commas.{links_at}
use Rattle.wt_joins.proofs.commas.is_linked.Given as goal

abbrev pub invariant-conjuncts : goal.invariant-conjuncts
invariant-conjuncts l = list_any (links_at l.comma) (conjunct_trees l.rest) ≡ list_any (links_at l.comma) (conjunct_trees l.conjuncts)

abbrev pub decreases-conjuncts : goal.decreases-conjuncts
decreases-conjuncts l = length l.rest
