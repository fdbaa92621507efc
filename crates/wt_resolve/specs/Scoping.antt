-- The columns in scope of the program's lists of FROM items, and of enclosing queries.
use Rattle.std.specs.Prelude.{ℕ, suc, List, [], ◌∷◌, map, flat_map, if◌then◌else◌}
use Rattle.std.specs.Str.{bytes_eq}
use Rattle.std.proofs.Common.{Bor}
use Rattle.wt_ast.specs.Tree.{from_tree}
use Rattle.wt_ast.specs.declared.tree.FromPart.{FromPart}
use Rattle.wt_schema.specs.declared.schema.Table.{Table}
use Rattle.wt_query_rows.specs.declared.scope.ScopeColumn.{ScopeColumn}
use Rattle.wt_query_rows.specs.Scopes.{in_scope, scope_of}
use Rattle.wt_resolve.specs.declared.lookup.ScopeItem.{ScopeItem}
use Rattle.wt_resolve.specs.declared.lookup.Scope.{Scope}

abbrev pub item_columns : ScopeItem → List ScopeColumn
item_columns i = map (in_scope i.alias) i.names

-- the columns of FROM items, in order
abbrev pub columns_of : List ScopeItem → List ScopeColumn
columns_of items = flat_map item_columns items

-- the columns of enclosing queries, of which all FROM items count
abbrev pub outer_columns : List Table → List (Bor FromPart) → List ScopeColumn
outer_columns S outer = flat_map (λ (f : Bor FromPart). scope_of S (from_tree f.now)) outer

-- the place of the first of the names that is this one, the number of names where there is none
abbrev pub named_at : List (List ℕ) → List ℕ → ℕ
named_at [] name = 0
named_at (n ∷ names) name = if bytes_eq name n then 0 else suc (named_at names name)

-- the columns of enclosing queries, and those in scope
abbrev pub outside : Scope → List ScopeColumn
outside s = outer_columns s.schema.now.tables s.outer.now

abbrev pub inside : Scope → List ScopeColumn
inside s = columns_of s.items.now
