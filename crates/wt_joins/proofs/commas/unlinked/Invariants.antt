use Rattle.std.proofs.Common.{◌≡◌, ◌++◌}
use Rattle.std.specs.Vec.Iter.{into_iter_items}
use Rattle.wt_conjunct.specs.Views.{conjunct_trees}
use Rattle.wt_joins.specs.Commas.{free_at}
use Rattle.wt_joins.proofs.commas.unlinked.Given as goal

abbrev pub invariant-loop-conjunct : goal.invariant-loop-conjunct
invariant-loop-conjunct l = conjunct_trees l.free.items ++ free_at l.commas (conjunct_trees (into_iter_items l.conjunct-iterator)) ≡ free_at l.commas (conjunct_trees l.fn.conjuncts.items)
