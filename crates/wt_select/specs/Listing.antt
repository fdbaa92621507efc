-- The columns of a query's output: their names, their kinds, and their places among the columns in scope.
use Rattle.std.specs.Prelude.{◌≡◌, ℕ, ◌+◌, nat_lt, List, ◌++◌, flat_map, length}
use Rattle.wt_ast.specs.declared.tree.Item.{Item}
use Rattle.wt_schema.specs.declared.schema.ColKind.{ColKind}
use Rattle.wt_query_rows.specs.declared.scope.ScopeColumn.{ScopeColumn}
use Rattle.wt_query_rows.specs.Scopes.{item_names}
use Rattle.wt_query_plan.specs.Building.{item_places}
use Rattle.wt_query_plan.specs.Faults.{Fault, first_of, fault_if, item_fault, item_at, item_kinds}
use Rattle.wt_query_plan.specs.declared.fault.BuildFault.TheVariants.{TooWide}
use Rattle.wt_select.specs.declared.list.Selected.{Selected}

-- the fault of an item behind n columns
abbrev pub item_told : List ScopeColumn → List ScopeColumn → List ColKind → ℕ → Item → Fault
item_told outer scope ks n i = first_of (item_fault outer scope i) (fault_if (nat_lt 16384 (n + length (item_kinds scope ks i))) TooWide (item_at i))

-- the columns of one item behind others
abbrev pub Adds : List ScopeColumn → List ColKind → Item → Selected → Selected → Type 0
Adds scope ks i old new = (new.names.items ≡ old.names.items ++ item_names scope i) × (new.kinds.items ≡ old.kinds.items ++ item_kinds scope ks i) × (new.places.items ≡ old.places.items ++ item_places scope i)

-- those of a list
abbrev pub Lists : List ScopeColumn → List ColKind → List Item → Selected → Type 0
Lists scope ks items s = (s.names.items ≡ flat_map (item_names scope) items) × (s.kinds.items ≡ flat_map (item_kinds scope ks) items) × (s.places.items ≡ flat_map (item_places scope) items)
