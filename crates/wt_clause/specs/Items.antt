-- What a FROM clause brings: its items, and the plans of its tables and derived tables.
use Rattle.std.specs.Prelude.{◌≡◌, ℕ, List, [], ◌∷◌, ◌++◌, map, length}
use Rattle.std.specs.Option.{unwrap_or}
use Rattle.wt_ast.specs.Tree.{FromTree, table, derived, inner_join, left_join, right_join, comma}
use Rattle.wt_schema.specs.declared.schema.ColKind.{ColKind}
use Rattle.wt_schema.specs.declared.schema.Table.{Table}
use Rattle.wt_plan.specs.Tree.{PlanTree}
use Rattle.wt_plan.specs.Tree as plans
use Rattle.wt_query_rows.specs.Scopes.{column_names, columns_named, output_names}
use Rattle.wt_query_plan.specs.Building.{planned, table_number}
use Rattle.wt_query_plan.specs.Faults.{kinds_of}
use Rattle.wt_resolve.specs.declared.lookup.ScopeItem.{ScopeItem}
use Rattle.wt_resolve.specs.declared.lookup.Scope.{Scope}
use Rattle.wt_resolve.specs.Items.{item}

abbrev pub items_of : List Table → FromTree → List ScopeItem
items_of S (table name alias at alias_at) = item (unwrap_or alias name) (column_names (columns_named S name)) ∷ []
items_of S (derived q alias columns at alias_at) = item alias (unwrap_or columns (output_names S q)) ∷ []
items_of S (inner_join l r on at) = items_of S l ++ items_of S r
items_of S (left_join l r on at) = items_of S l ++ items_of S r
items_of S (right_join l r on at) = items_of S l ++ items_of S r
items_of S (comma l r at) = items_of S l ++ items_of S r

abbrev pub aliases : List ScopeItem → List (List ℕ)
aliases items = map (λ (i : ScopeItem). i.alias) items

-- The plans of the tables and derived tables, as they stand in the clause; where two operands stand, with the numbers of
-- items and of columns of the left one.
pub data LeavesTree : Type 0 where
  leaf : PlanTree → LeavesTree
  fork : LeavesTree → LeavesTree → ℕ → ℕ → LeavesTree

abbrev pub leaves_of : List Table → FromTree → LeavesTree
leaves_of S (table name alias at alias_at) = leaf (plans.table (table_number S name) (length (columns_named S name)))
leaves_of S (derived q alias columns at alias_at) = leaf (planned S q)
leaves_of S (inner_join l r on at) = fork (leaves_of S l) (leaves_of S r) (length (items_of S l)) (length (kinds_of S l))
leaves_of S (left_join l r on at) = fork (leaves_of S l) (leaves_of S r) (length (items_of S l)) (length (kinds_of S l))
leaves_of S (right_join l r on at) = fork (leaves_of S l) (leaves_of S r) (length (items_of S l)) (length (kinds_of S l))
leaves_of S (comma l r at) = fork (leaves_of S l) (leaves_of S r) (length (items_of S l)) (length (kinds_of S l))

abbrev pub IsFork : LeavesTree → Type 0
IsFork (leaf plan) = ⊥
IsFork (fork left right items columns) = Unit {0}

-- the scope with other items and kinds
pub record IsPart (s : Scope) (items : List ScopeItem) (kinds : List ColKind) (part : Scope) : Type 0 where
  pub schema : part.schema ≡ s.schema
  pub outer : part.outer ≡ s.outer
  pub items_are : part.items.now ≡ items
  pub kinds_are : part.kinds.now ≡ kinds
