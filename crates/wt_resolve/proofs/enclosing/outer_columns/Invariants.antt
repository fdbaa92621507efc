use Rattle.std.proofs.Common.{◌≡◌, take}
use Rattle.wt_resolve.specs.Scoping.{outer_columns}
use Rattle.wt_resolve.proofs.enclosing.outer_columns.Given as goal

abbrev pub invariant-loop-from : goal.invariant-loop-from
invariant-loop-from l = l.columns.items ≡ outer_columns l.schema.tables (take l.from-index l.outer)
