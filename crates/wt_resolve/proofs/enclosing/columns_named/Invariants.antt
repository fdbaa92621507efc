use Rattle.std.proofs.Common.{◌≡◌, length}
use Rattle.wt_query_rows.specs.Scopes.{columns_named}
use Rattle.wt_resolve.proofs.enclosing.columns_named.Given as goal

abbrev pub invariant-tables : goal.invariant-tables
invariant-tables l = columns_named l.tables l.name ≡ columns_named l.schema.tables l.name

abbrev pub decreases-tables : goal.decreases-tables
decreases-tables l = length l.tables
