-- What a walk over a FROM clause knows of it.
use Rattle.std.specs.Prelude.{◌≡◌, ◌+◌, ◌<◌, ◌≤◌, ◌^◌, ◌++◌, length}
use Rattle.wt_ast.specs.Tree.{QueryTree, FilterTree, FromTree, select}
use Rattle.wt_query_rows.specs.Scopes.{scope_of}
use Rattle.wt_query_plan.specs.Faults.{kinds_of}
use Rattle.wt_resolve.specs.declared.lookup.Scope.{Scope}
use Rattle.wt_clause.specs.Items.{LeavesTree, fork, leaves_of, items_of}
use Rattle.wt_query_bounds.specs.Bounds.{items_in_from, Even}

abbrev pub from_of : QueryTree → FromTree
from_of (select distinct items from keep) = from

abbrev pub filter_of : QueryTree → FilterTree
filter_of (select distinct items from keep) = keep

-- the columns in scope are those of a FROM clause without a fault of its items
pub record Seen (f : FromTree) (scope : Scope) : Type 0 where
  pub items : scope.items.now ≡ items_of scope.schema.now.tables f
  pub kinds : scope.kinds.now ≡ kinds_of scope.schema.now.tables f
  pub even : Even scope.schema.now.tables f
  pub narrow : length (scope_of scope.schema.now.tables f) < 2 ^ 32

-- so are those of a part of it, whose plans are at hand
pub record Ready (f : FromTree) (scope : Scope) (leaves : LeavesTree) : Type 0 where
  pub small : items_in_from f ≤ 256
  pub leaves_are : leaves ≡ leaves_of scope.schema.now.tables f
  pub seen : Seen f scope

-- the same of two operands
pub record Halves (l r : FromTree) (scope : Scope) (leaves : LeavesTree) : Type 0 where
  pub small : items_in_from l + items_in_from r ≤ 256
  pub leaves_are : leaves ≡ fork (leaves_of scope.schema.now.tables l) (leaves_of scope.schema.now.tables r) (length (items_of scope.schema.now.tables l)) (length (kinds_of scope.schema.now.tables l))
  pub items : scope.items.now ≡ items_of scope.schema.now.tables l ++ items_of scope.schema.now.tables r
  pub kinds : scope.kinds.now ≡ kinds_of scope.schema.now.tables l ++ kinds_of scope.schema.now.tables r
  pub even_left : Even scope.schema.now.tables l
  pub even_right : Even scope.schema.now.tables r
  pub narrow : length (scope_of scope.schema.now.tables l) + length (scope_of scope.schema.now.tables r) < 2 ^ 32
