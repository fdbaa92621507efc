use Rattle.std.proofs.Common.{◌≡◌, ◌++◌, take, map, filter}
use Rattle.wt_query_rows.specs.declared.scope.ScopeColumn.{ScopeColumn}
use Rattle.wt_query_rows.specs.Scopes.{is_of}
use Rattle.wt_resolve.proofs.enclosing.push_names_of.Given as goal

abbrev pub invariant-loop-column : goal.invariant-loop-column
invariant-loop-column l = l.out.items ≡ l.fn.out.items ++ map (λ (s : ScopeColumn). s.name) (filter (is_of l.alias) (take l.column-index l.scope))
