use Rattle.std.proofs.Common.{◌≡◌, ◌++◌, take, map}
use Rattle.wt_query_rows.specs.Scopes.{in_scope}
use Rattle.wt_resolve.proofs.enclosing.push_columns.Given as goal

abbrev pub invariant-loop-name : goal.invariant-loop-name
invariant-loop-name l = l.out.items ≡ l.fn.out.items ++ map (in_scope l.alias) (take l.name-index l.names)
