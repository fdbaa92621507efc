use Rattle.std.proofs.Common.{◌≡◌, length}
use Rattle.wt_conjunct.specs.Views.{conjunct_trees}
use Rattle.wt_joins.specs.Commas.{commas_refused}
use Rattle.wt_joins.proofs.commas.commas_told.Given as goal

abbrev pub invariant-commas : goal.invariant-commas
invariant-commas l = commas_refused (conjunct_trees l.conjuncts) l.rest ≡ commas_refused (conjunct_trees l.conjuncts) l.commas

abbrev pub decreases-commas : goal.decreases-commas
decreases-commas l = length l.rest
