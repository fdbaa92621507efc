use Rattle.std.proofs.Common.{◌↔◌, length}
use Rattle.wt_schema.specs.Satisfying.{RowFits}
use Rattle.wt_schema.proofs.satisfying.row_fits.Given as goal

abbrev pub invariant-columns : goal.invariant-columns
invariant-columns l = RowFits l.columns l.row ↔ RowFits l.initial.columns l.initial.row

abbrev pub decreases-columns : goal.decreases-columns
decreases-columns l = length l.columns
