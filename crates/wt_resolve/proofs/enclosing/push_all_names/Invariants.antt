use Rattle.std.proofs.Common.{◌≡◌, ◌++◌, take, map}
use Rattle.wt_query_rows.specs.declared.scope.ScopeColumn.{ScopeColumn}
use Rattle.wt_resolve.proofs.enclosing.push_all_names.Given as goal

abbrev pub invariant-loop-column : goal.invariant-loop-column
invariant-loop-column l = l.out.items ≡ l.fn.out.items ++ map (λ (s : ScopeColumn). s.name) (take l.column-index l.scope)
