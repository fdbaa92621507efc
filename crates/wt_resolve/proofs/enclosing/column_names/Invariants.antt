use Rattle.std.proofs.Common.{◌≡◌, take}
use Rattle.wt_query_rows.specs.Scopes.{column_names}
use Rattle.wt_resolve.proofs.enclosing.column_names.Given as goal

abbrev pub invariant-loop-column : goal.invariant-loop-column
invariant-loop-column l = l.names ≡ column_names (take l.column-index l.columns)
