-- The tree of a query without where its parts lie in memory: whatever a clause says of a tree, it says of this.
use Rattle.std.specs.Prelude.{ℕ, Bool, List, [], ◌∷◌, map, Option, Some, None}
use Rattle.wt_value.specs.declared.value.Value.{Value}
use Rattle.wt_ast.specs.declared.tree.ColumnName.{ColumnName}
use Rattle.wt_ast.specs.declared.tree.Item.{Item}
use Rattle.wt_ast.specs.declared.tree.Item.TheVariants as items
use Rattle.wt_ast.specs.declared.tree.CmpWord.{CmpWord}
use Rattle.wt_ast.specs.declared.tree.Scalar.{Scalar}
use Rattle.wt_ast.specs.declared.tree.Scalar.TheVariants as scalars
use Rattle.wt_ast.specs.declared.tree.Query.{Query, Query', Held-Query-filter, None', Some'}
use Rattle.wt_ast.specs.declared.tree.FromPart.{FromPart}
use Rattle.wt_ast.specs.declared.tree.FromPart.TheVariants.{Table, Derived', Inner', Left', Right', Comma'}
use Rattle.wt_ast.specs.declared.tree.Condition.{Condition}
use Rattle.wt_ast.specs.declared.tree.CondKind.{CondKind}
use Rattle.wt_ast.specs.declared.tree.CondKind.TheVariants.{Compare, IsNull, IsNotNull, InList, InQuery', And, Or, Not'}
use Rattle.wt_ast.specs.declared.tree.Conditions.{Conditions}
use Rattle.wt_ast.specs.declared.tree.Conditions.TheVariants.{Empty, More'}

-- A query, its WHERE, its FROM, a condition and conditions in order. The numbers are the offsets that the types of the
-- program name, in the order in which they stand there; a condition has that of its first token first.
mutual
  pub data QueryTree : Type 0 where
    select : Bool → List Item → FromTree → FilterTree → QueryTree

  pub data FilterTree : Type 0 where
    no_filter : FilterTree
    filter_by : CondTree → FilterTree

  pub data FromTree : Type 0 where
    table : List ℕ → Option (List ℕ) → ℕ → ℕ → FromTree
    derived : QueryTree → List ℕ → Option (List (List ℕ)) → ℕ → ℕ → FromTree
    inner_join : FromTree → FromTree → CondTree → ℕ → FromTree
    left_join : FromTree → FromTree → CondTree → ℕ → FromTree
    right_join : FromTree → FromTree → CondTree → ℕ → FromTree
    comma : FromTree → FromTree → ℕ → FromTree

  pub data CondTree : Type 0 where
    compare : ℕ → CmpWord → Scalar → Scalar → ℕ → CondTree
    is_null : ℕ → ColumnName → CondTree
    is_not_null : ℕ → ColumnName → CondTree
    in_list : ℕ → ColumnName → List Value → ℕ → CondTree
    in_query : ℕ → List ColumnName → QueryTree → ℕ → CondTree
    all_of : ℕ → CondTrees → CondTree
    any_of : ℕ → CondTrees → CondTree
    negated : ℕ → CondTree → CondTree

  pub data CondTrees : Type 0 where
    no_conds : CondTrees
    cond_then : CondTree → CondTrees → CondTrees

-- The functions that forget the pointers; in the patterns `p` and `q` are those.
abbrev mutual
  pub query_tree : Query → QueryTree
  query_tree (Query' distinct items from filter) = select distinct items (from_tree from) (held_tree filter)

  pub held_tree : Held-Query-filter → FilterTree
  held_tree None' = no_filter
  held_tree (Some' at kind) = filter_by (kind_tree at kind)

  pub from_tree : FromPart → FromTree
  from_tree (Table name alias at alias_at) = table name alias at alias_at
  from_tree (Derived' p query alias columns at alias_at) = derived (query_tree query) alias columns at alias_at
  from_tree (Inner' p left q right at kind on_at) = inner_join (from_tree left) (from_tree right) (kind_tree at kind) on_at
  from_tree (Left' p left q right at kind on_at) = left_join (from_tree left) (from_tree right) (kind_tree at kind) on_at
  from_tree (Right' p left q right at kind on_at) = right_join (from_tree left) (from_tree right) (kind_tree at kind) on_at
  from_tree (Comma' p left q right comma_at) = comma (from_tree left) (from_tree right) comma_at

  pub kind_tree : ℕ → CondKind → CondTree
  kind_tree at (Compare cmp a b word_at) = compare at cmp a b word_at
  kind_tree at (IsNull column) = is_null at column
  kind_tree at (IsNotNull column) = is_not_null at column
  kind_tree at (InList column values word_at) = in_list at column values word_at
  kind_tree at (InQuery' columns p query word_at) = in_query at columns (query_tree query) word_at
  kind_tree at (And parts) = all_of at (conditions_tree parts)
  kind_tree at (Or parts) = any_of at (conditions_tree parts)
  kind_tree at (Not' p inner_at inner) = negated at (kind_tree inner_at inner)

  pub conditions_tree : Conditions → CondTrees
  conditions_tree Empty = no_conds
  conditions_tree (More' p at kind q rest) = cond_then (kind_tree at kind) (conditions_tree rest)

abbrev pub condition_tree : Condition → CondTree
condition_tree c = kind_tree c.at c.kind

-- what stands behind WHERE, if anything does
abbrev pub filter_tree : Option Condition → FilterTree
filter_tree None = no_filter
filter_tree (Some c) = filter_by (condition_tree c)

-- the conditions of a list
abbrev pub trees_of : List CondTree → CondTrees
trees_of [] = no_conds
trees_of (c ∷ cs) = cond_then c (trees_of cs)

abbrev pub condition_trees : List Condition → CondTrees
condition_trees [] = no_conds
condition_trees (c ∷ cs) = cond_then (condition_tree c) (condition_trees cs)

-- the first byte of a condition
abbrev pub cond_at : CondTree → ℕ
cond_at (compare at c a b word_at) = at
cond_at (is_null at column) = at
cond_at (is_not_null at column) = at
cond_at (in_list at column values word_at) = at
cond_at (in_query at columns query word_at) = at
cond_at (all_of at parts) = at
cond_at (any_of at parts) = at
cond_at (negated at c) = at

-- ---- a tree without its places: two trees that this makes equal are the same apart from offsets

abbrev pub column_without_place : ColumnName → ColumnName
column_without_place c = record { table = c.table; name = c.name; at = 0 }

abbrev pub item_without_place : Item → Item
item_without_place (items.Star at) = items.Star 0
item_without_place (items.AllOf alias at) = items.AllOf alias 0
item_without_place (items.Column column output) = items.Column (column_without_place column) output

abbrev pub scalar_without_place : Scalar → Scalar
scalar_without_place (scalars.Column column) = scalars.Column (column_without_place column)
scalar_without_place (scalars.Literal value at) = scalars.Literal value 0

abbrev mutual
  pub without_places : QueryTree → QueryTree
  without_places (select distinct items from filter) =
      select distinct (map item_without_place items) (from_without_places from) (filter_without_places filter)

  pub filter_without_places : FilterTree → FilterTree
  filter_without_places no_filter = no_filter
  filter_without_places (filter_by c) = filter_by (cond_without_places c)

  pub from_without_places : FromTree → FromTree
  from_without_places (table name alias at alias_at) = table name alias 0 0
  from_without_places (derived query alias columns at alias_at) = derived (without_places query) alias columns 0 0
  from_without_places (inner_join left right on on_at) =
      inner_join (from_without_places left) (from_without_places right) (cond_without_places on) 0
  from_without_places (left_join left right on on_at) =
      left_join (from_without_places left) (from_without_places right) (cond_without_places on) 0
  from_without_places (right_join left right on on_at) =
      right_join (from_without_places left) (from_without_places right) (cond_without_places on) 0
  from_without_places (comma left right comma_at) = comma (from_without_places left) (from_without_places right) 0

  pub cond_without_places : CondTree → CondTree
  cond_without_places (compare at c a b word_at) = compare 0 c (scalar_without_place a) (scalar_without_place b) 0
  cond_without_places (is_null at column) = is_null 0 (column_without_place column)
  cond_without_places (is_not_null at column) = is_not_null 0 (column_without_place column)
  cond_without_places (in_list at column values word_at) = in_list 0 (column_without_place column) values 0
  cond_without_places (in_query at columns query word_at) = in_query 0 (map column_without_place columns) (without_places query) 0
  cond_without_places (all_of at parts) = all_of 0 (conds_without_places parts)
  cond_without_places (any_of at parts) = any_of 0 (conds_without_places parts)
  cond_without_places (negated at c) = negated 0 (cond_without_places c)

  pub conds_without_places : CondTrees → CondTrees
  conds_without_places no_conds = no_conds
  conds_without_places (cond_then c rest) = cond_then (cond_without_places c) (conds_without_places rest)
