-- The columns that a FROM clause has in scope, and the names of a query's output.
use Rattle.std.specs.Prelude.{ℕ, Bool, true, ◌&&◌, List, [], ◌∷◌, ◌++◌, map, filter, flat_map, if◌then◌else◌, Option, Some, None}
use Rattle.std.specs.Option.{unwrap_or}
use Rattle.std.specs.Str.{bytes_eq}
use Rattle.wt_ast.specs.declared.tree.ColumnName.{ColumnName}
use Rattle.wt_ast.specs.declared.tree.Item.{Item}
use Rattle.wt_ast.specs.declared.tree.Item.TheVariants.{Star, AllOf, Column}
use Rattle.wt_schema.specs.declared.schema.Table.{Table}
use Rattle.wt_schema.specs.declared.schema.Column as columns
use Rattle.wt_query_rows.specs.declared.scope.ScopeColumn.{ScopeColumn}
use Rattle.wt_ast.specs.Tree.{QueryTree, FromTree, select, table, derived, inner_join, left_join, right_join, comma}

-- a column in scope: the alias of its FROM item, and its name
abbrev pub in_scope : List ℕ → List ℕ → ScopeColumn
in_scope a n = record { alias = a; name = n }

-- the columns of the table of a name, none where the schema has no such table
abbrev pub columns_named : List Table → List ℕ → List columns.Column
columns_named [] name = []
columns_named (t ∷ ts) name = if bytes_eq t.name name then t.columns else columns_named ts name

abbrev pub column_names : List columns.Column → List (List ℕ)
column_names cs = map (λ (c : columns.Column). c.name) cs

-- a column name fits a column by its alias, if one is written, and its name
abbrev pub alias_fits : Option (List ℕ) → List ℕ → Bool
alias_fits None alias = true
alias_fits (Some a) alias = bytes_eq a alias

abbrev pub fits : ColumnName → ScopeColumn → Bool
fits c s = alias_fits c.table s.alias && bytes_eq c.name s.name

abbrev pub is_of : List ℕ → ScopeColumn → Bool
is_of alias s = bytes_eq alias s.alias

-- the output names of one item
abbrev pub item_names : List ScopeColumn → Item → List (List ℕ)
item_names scope (Star at) = map (λ (s : ScopeColumn). s.name) scope
item_names scope (AllOf alias at) = map (λ (s : ScopeColumn). s.name) (filter (is_of alias) scope)
item_names scope (Column column output) = unwrap_or output column.name ∷ []

-- The columns in scope of a FROM clause, in the order of the text, and the output names of a query.
abbrev mutual
  pub scope_of : List Table → FromTree → List ScopeColumn
  scope_of S (table name alias at alias_at) = map (in_scope (unwrap_or alias name)) (column_names (columns_named S name))
  scope_of S (derived q alias columns at alias_at) = map (in_scope alias) (unwrap_or columns (output_names S q))
  scope_of S (inner_join l r on at) = scope_of S l ++ scope_of S r
  scope_of S (left_join l r on at) = scope_of S l ++ scope_of S r
  scope_of S (right_join l r on at) = scope_of S l ++ scope_of S r
  scope_of S (comma l r at) = scope_of S l ++ scope_of S r

  pub output_names : List Table → QueryTree → List (List ℕ)
  output_names S (select once items from keep) = flat_map (item_names (scope_of S from)) items
