-- What the walk over a query has told at each of its steps. Private contracts alone cite this file.
use Rattle.std.specs.Prelude.{ℕ, List, ◌++◌, length}
use Rattle.wt_ast.specs.Tree.{QueryTree, FromTree, CondTree, select}
use Rattle.wt_schema.specs.declared.schema.Table.{Table}
use Rattle.wt_query_rows.specs.declared.scope.ScopeColumn.{ScopeColumn}
use Rattle.wt_query_rows.specs.Scopes.{scope_of}
use Rattle.wt_query_plan.specs.Building.{Conjunct, conjuncts, kept_by}
use Rattle.wt_query_plan.specs.Faults.{Fault, first_of, from_fault, joins_fault, filter_fault, commas_fault, items_fault, cond_fault, kinds_of}
use Rattle.wt_query_plan.specs.Faults.{aliases_of}
use Rattle.wt_clause.specs.Items.{LeavesTree, fork, leaves_of, items_of}

-- the faults of a query behind those of its items
abbrev pub clause_fault : List Table → List ScopeColumn → QueryTree → Fault
clause_fault S outer (select distinct items from keep) =
    first_of (joins_fault S outer (scope_of S from) from)
    (first_of (filter_fault S outer (scope_of S from) (kinds_of S from) keep) (first_of (commas_fault S (kept_by S (scope_of S from) keep) from) (items_fault outer (scope_of S from) (kinds_of S from) 0 items)))

-- the faults of the items of two operands
abbrev pub both_faults : List Table → List ScopeColumn → List (List ℕ) → FromTree → FromTree → Fault
both_faults S outer before l r = first_of (from_fault S outer before l) (from_fault S outer (before ++ aliases_of l) r)

-- their plans
abbrev pub both_leaves : List Table → FromTree → FromTree → LeavesTree
both_leaves S l r = fork (leaves_of S l) (leaves_of S r) (length (items_of S l)) (length (kinds_of S l))

-- the faults of two operands and of the ON of their join
abbrev pub on_fault : List Table → List ScopeColumn → List ScopeColumn → FromTree → FromTree → CondTree → Fault
on_fault S outer block l r on =
    first_of (first_of (joins_fault S outer block l) (joins_fault S outer block r)) (cond_fault S outer block (scope_of S l ++ scope_of S r) (kinds_of S l ++ kinds_of S r) on)

abbrev pub on_conjuncts : List Table → FromTree → FromTree → CondTree → List Conjunct
on_conjuncts S l r on = conjuncts S (scope_of S l ++ scope_of S r) on
