-- The rows of a query on a database, from its tree alone. A row of a FROM clause has the alias and the name of its column at each value.
use Rattle.std.specs.Prelude.{ℕ, Bool, true, false, ◌&&◌, List, [], ◌∷◌, ◌++◌, map, filter, flat_map, if◌then◌else◌}
use Rattle.std.specs.List.{list_any}
use Rattle.std.specs.Str.{bytes_eq}
use Rattle.wt_value.specs.declared.value.Value.{Value}
use Rattle.wt_value.specs.declared.value.Value.TheVariants.{Null}
use Rattle.wt_value.specs.declared.value.Truth.{Truth}
use Rattle.wt_value.specs.declared.value.Truth.TheVariants as truth_values
use Rattle.wt_value.specs.Truths as truths_of
use Rattle.wt_value.specs.Truths.{equality, not_of}
use Rattle.wt_value.specs.Values.{Tuple, row_matches, distinct_rows}
use Rattle.wt_pred.specs.declared.tree.Cmp.{Cmp}
use Rattle.wt_pred.specs.declared.tree.Cmp.TheVariants as signs
use Rattle.wt_pred.specs.Meaning.{comparison, least, greatest}
use Rattle.wt_schema.specs.declared.schema.Table.{Table}
use Rattle.wt_ast.specs.declared.tree.ColumnName.{ColumnName}
use Rattle.wt_ast.specs.declared.tree.Item.{Item}
use Rattle.wt_ast.specs.declared.tree.Item.TheVariants.{Star, AllOf, Column}
use Rattle.wt_ast.specs.declared.tree.Scalar.{Scalar}
use Rattle.wt_ast.specs.declared.tree.Scalar.TheVariants as scalars
use Rattle.wt_ast.specs.declared.tree.CmpWord.{CmpWord}
use Rattle.wt_ast.specs.declared.tree.CmpWord.TheVariants as words
use Rattle.wt_ast.specs.Tree.{QueryTree, FilterTree, FromTree, CondTree, CondTrees, select, no_filter, filter_by, table, derived, inner_join, left_join, right_join, comma, compare, is_null, is_not_null, in_list, in_query, all_of, any_of, negated, no_conds, cond_then}
use Rattle.wt_query_rows.specs.declared.scope.ScopeColumn.{ScopeColumn}
use Rattle.wt_query_rows.specs.Scopes.{fits, is_of, scope_of}

-- a value under its column
pub record Cell : Type 0 where
  pub column : ScopeColumn
  pub value : Value

abbrev pub cell : ScopeColumn → Value → Cell
cell s v = record { column = s; value = v }

abbrev pub Named : Type 0
Named = List Cell

abbrev pub named : List ScopeColumn → Tuple → Named
named [] row = []
named (s ∷ scope) [] = []
named (s ∷ scope) (v ∷ row) = cell s v ∷ named scope row

abbrev pub values : Named → Tuple
values row = map (λ (c : Cell). c.value) row

abbrev pub nulls : List ScopeColumn → Named
nulls scope = map (λ s. cell s Null) scope

-- the value at the first column that the name fits, NULL where there is none
abbrev pub value_of : Named → ColumnName → Value
value_of [] c = Null
value_of (x ∷ row) c = if fits c x.column then x.value else value_of row c

abbrev pub scalar_of : Named → Scalar → Value
scalar_of row (scalars.Column c) = value_of row c
scalar_of row (scalars.Literal v at) = v

-- the values that one item takes
abbrev pub item_values : Named → Item → Tuple
item_values row (Star at) = values row
item_values row (AllOf alias at) = values (filter (λ (c : Cell). is_of alias c.column) row)
item_values row (Column column output) = value_of row column ∷ []

abbrev pub chosen : List Item → Named → Tuple
chosen items row = flat_map (item_values row) items

abbrev pub sign_of : CmpWord → Cmp
sign_of words.Eq = signs.Eq
sign_of words.Ne = signs.Ne
sign_of words.Lt = signs.Lt
sign_of words.Le = signs.Le
sign_of words.Gt = signs.Gt
sign_of words.Ge = signs.Ge

abbrev pub is_true : Truth → Bool
is_true truth_values.True = true
is_true _ = false

-- The truth of a condition at a row. A subquery stands in no such condition.
abbrev mutual
  pub truth_at : Named → CondTree → Truth
  truth_at row (compare at sign a b word_at) = comparison (sign_of sign) (scalar_of row a) (scalar_of row b)
  truth_at row (is_null at c) = truths_of.is_null (value_of row c)
  truth_at row (is_not_null at c) = not_of (truths_of.is_null (value_of row c))
  truth_at row (in_list at c vs word_at) = greatest (map (equality (value_of row c)) vs)
  truth_at row (in_query at cs q word_at) = truth_values.False
  truth_at row (all_of at cs) = least (truths_at row cs)
  truth_at row (any_of at cs) = greatest (truths_at row cs)
  truth_at row (negated at c) = not_of (truth_at row c)

  pub truths_at : Named → CondTrees → List Truth
  truths_at row no_conds = []
  truths_at row (cond_then c cs) = truth_at row c ∷ truths_at row cs

-- the joined rows of a left row; where there are none, the row with NULLs for the right columns
abbrev pub or_padded : Named → List Named → List Named
or_padded padded [] = padded ∷ []
or_padded padded (row ∷ rows) = row ∷ rows

abbrev pub once : Bool → List Tuple → List Tuple
once true rows = distinct_rows rows
once false rows = rows

abbrev pub table_rows : List Table → List (List Tuple) → List ℕ → List Tuple
table_rows [] base name = []
table_rows (t ∷ ts) [] name = []
table_rows (t ∷ ts) (rows ∷ base) name = if bytes_eq t.name name then rows else table_rows ts base name

-- The rows of a query, of its FROM clause, and whether each conjunct of a condition is True at a row.
abbrev mutual
  pub query_rows : List Table → List (List Tuple) → QueryTree → List Tuple
  query_rows S base (select distinct items from keep) = once distinct (map (chosen items) (filter (λ row. passes S base keep row) (from_rows S base from)))

  pub from_rows : List Table → List (List Tuple) → FromTree → List Named
  from_rows S base (table name alias at alias_at) = map (named (scope_of S (table name alias at alias_at))) (table_rows S base name)
  from_rows S base (derived q alias columns at alias_at) = map (named (scope_of S (derived q alias columns at alias_at))) (query_rows S base q)
  from_rows S base (inner_join l r on at) = flat_map (λ x. filter (λ z. holds S base on z) (map (λ y. x ++ y) (from_rows S base r))) (from_rows S base l)
  from_rows S base (left_join l r on at) =
      flat_map (λ x. or_padded (x ++ nulls (scope_of S r)) (filter (λ z. holds S base on z) (map (λ y. x ++ y) (from_rows S base r)))) (from_rows S base l)
  from_rows S base (right_join l r on at) =
      flat_map (λ y. or_padded (nulls (scope_of S l) ++ y) (filter (λ z. holds S base on z) (map (λ x. x ++ y) (from_rows S base l)))) (from_rows S base r)
  from_rows S base (comma l r at) = flat_map (λ x. map (λ y. x ++ y) (from_rows S base r)) (from_rows S base l)

  pub passes : List Table → List (List Tuple) → FilterTree → Named → Bool
  passes S base no_filter row = true
  passes S base (filter_by c) row = holds S base c row

  pub holds : List Table → List (List Tuple) → CondTree → Named → Bool
  holds S base (all_of at cs) row = all_hold S base cs row
  holds S base (in_query at cs q word_at) row = list_any (λ r. row_matches (map (value_of row) cs) r) (query_rows S base q)
  holds S base c row = is_true (truth_at row c)

  pub all_hold : List Table → List (List Tuple) → CondTrees → Named → Bool
  all_hold S base no_conds row = true
  all_hold S base (cond_then c cs) row = holds S base c row && all_hold S base cs row
