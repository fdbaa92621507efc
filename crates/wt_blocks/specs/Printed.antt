-- The query tree of a plan with names. FROM items have the aliases q0, q1, .. in the order of their first bytes in the text,
-- over the whole query; derived tables have the columns c0, c1, .. Each offset in the tree is 0.
use Rattle.std.specs.Prelude.{ℕ, zero, suc, ◌+◌, Bool, true, false, ◌&&◌, List, [], ◌∷◌, ◌++◌, map, get_or, codes, Option, Some, None}
use Rattle.std.specs.Fmt.{decimal}
use Rattle.std.specs.Str.{bytes_eq}
use Rattle.wt_pred.specs.declared.tree.Cmp.{Cmp}
use Rattle.wt_pred.specs.declared.tree.Cmp.TheVariants as signs
use Rattle.wt_pred.specs.declared.tree.Operand.{Operand}
use Rattle.wt_pred.specs.declared.tree.Operand.TheVariants as operands
use Rattle.wt_pred.specs.Tree.{PredTree, PredTrees}
use Rattle.wt_pred.specs.Tree as preds
use Rattle.wt_schema.specs.declared.schema.Table.{Table}
use Rattle.wt_ast.specs.declared.tree.ColumnName.{ColumnName}
use Rattle.wt_ast.specs.declared.tree.CmpWord.{CmpWord}
use Rattle.wt_ast.specs.declared.tree.CmpWord.TheVariants as words
use Rattle.wt_ast.specs.declared.tree.Item.{Item}
use Rattle.wt_ast.specs.declared.tree.Item.TheVariants as items
use Rattle.wt_ast.specs.declared.tree.Scalar.{Scalar}
use Rattle.wt_ast.specs.declared.tree.Scalar.TheVariants as scalars
use Rattle.wt_ast.specs.Tree.{QueryTree, FilterTree, FromTree, CondTree, CondTrees, select, no_filter, filter_by, trees_of}
use Rattle.wt_ast.specs.Tree as trees
use Rattle.wt_query_rows.specs.declared.scope.ScopeColumn.{ScopeColumn}
use Rattle.wt_query_rows.specs.Scopes.{in_scope, column_names}
use Rattle.wt_plan.specs.Tree.{PlanTree}
use Rattle.wt_plan.specs.Regular.{upto}
use Rattle.wt_blocks.specs.Blocks.{Block, Zone, block, table, derived, kept, member, inner_join, left_join, plan_block}
use Rattle.wt_blocks.specs.Counting.{block_width, from_items, condition_items}

-- ---- names

abbrev pub alias_of : ℕ → List ℕ
alias_of n = codes "q" ++ decimal n

abbrev pub place_name : ℕ → List ℕ
place_name k = codes "c" ++ decimal k

abbrev pub place_names : ℕ → List (List ℕ)
place_names width = map place_name (upto width)

-- the name of the table of a number, and those of its columns
abbrev pub table_name : List Table → ℕ → List ℕ
table_name [] n = []
table_name (t ∷ ts) zero = t.name
table_name (t ∷ ts) (suc n) = table_name ts n

abbrev pub table_columns : List Table → ℕ → List (List ℕ)
table_columns [] n = []
table_columns (t ∷ ts) zero = column_names t.columns
table_columns (t ∷ ts) (suc n) = table_columns ts n

-- The columns of a zone in the order of its rows, where its FROM items are numbered from n on.
abbrev pub zone_columns : List Table → ℕ → Zone → List ScopeColumn
zone_columns S n (table t w) = map (in_scope (alias_of n)) (table_columns S t)
zone_columns S n (derived b) = map (in_scope (alias_of n)) (place_names (block_width b))
zone_columns S n (kept q cols z) = zone_columns S n z
zone_columns S n (member cols z b) = zone_columns S n z
zone_columns S n (inner_join a b l r) = zone_columns S n l ++ zone_columns S (n + from_items l) r
zone_columns S n (left_join a b l r) = zone_columns S n l ++ zone_columns S (n + from_items l) r

-- a column as it is written: with its alias
abbrev pub written : ScopeColumn → ColumnName
written s = record { table = Some s.alias; name = s.name; at = 0 }

-- the columns at these places
abbrev pub column_at : List ScopeColumn → ℕ → ColumnName
column_at columns k = written (get_or columns k (in_scope [] []))

abbrev pub columns_at : List ScopeColumn → List ℕ → List ColumnName
columns_at columns cols = map (column_at columns) cols

-- ---- conditions

abbrev pub word_of : Cmp → CmpWord
word_of signs.Eq = words.Eq
word_of signs.Ne = words.Ne
word_of signs.Lt = words.Lt
word_of signs.Le = words.Le
word_of signs.Gt = words.Gt
word_of signs.Ge = words.Ge

-- a predicate over columns, each place being a column of the list `cols`
module _ (columns : List ScopeColumn) (cols : List ℕ) where
  abbrev pub operand_column : ℕ → ColumnName
  operand_column k = column_at columns (get_or cols k 0)

  abbrev pub scalar_of : Operand → Scalar
  scalar_of (operands.Column k) = scalars.Column (operand_column k)
  scalar_of (operands.Constant v) = scalars.Literal v 0

  abbrev mutual
    pub test_tree : PredTree → CondTree
    test_tree (preds.compare sign a b) = trees.compare 0 (word_of sign) (scalar_of a) (scalar_of b) 0
    test_tree (preds.is_null k) = trees.is_null 0 (operand_column k)
    test_tree (preds.is_not_null k) = trees.is_not_null 0 (operand_column k)
    test_tree (preds.in_list k values) = trees.in_list 0 (operand_column k) values 0
    test_tree (preds.all_of parts) = trees.all_of 0 (test_trees parts)
    test_tree (preds.any_of parts) = trees.any_of 0 (test_trees parts)
    test_tree (preds.negated p) = trees.negated 0 (test_tree p)

    pub test_trees : PredTrees → CondTrees
    test_trees preds.no_preds = trees.no_conds
    test_trees (preds.pred_then p ps) = trees.cond_then (test_tree p) (test_trees ps)

-- `x = y` for each pair of columns that a join compares
abbrev pub pair_trees : List ScopeColumn → List ScopeColumn → List ℕ → List ℕ → List CondTree
pair_trees lefts rights (x ∷ a) (y ∷ b) =
    trees.compare 0 words.Eq (scalars.Column (column_at lefts x)) (scalars.Column (column_at rights y)) 0 ∷ pair_trees lefts rights a b
pair_trees lefts rights _ _ = []

-- conditions joined by AND; one alone is itself
abbrev pub together : List CondTree → CondTree
together (c ∷ []) = c
together cs = trees.all_of 0 (trees_of cs)

abbrev pub where_of : List CondTree → FilterTree
where_of [] = no_filter
where_of (c ∷ cs) = filter_by (together (c ∷ cs))

-- ---- queries

-- a SELECT list: `*`, or columns without names of their own
abbrev pub items_of : Option (List ℕ) → List ScopeColumn → List Item
items_of None columns = items.Star 0 ∷ []
items_of (Some cols) columns = map (λ k. items.Column (column_at columns k) None) cols

-- The tree of a block whose FROM items are numbered from n on, the FROM clause of a zone, and the conditions of a zone whose
-- FROM items are numbered from n on and those in its subqueries from m on. Conditions stand in this order: those of the left
-- operand, those of the right operand, those above, from the lowest up.
abbrev mutual
  pub block_tree : List Table → ℕ → Block → QueryTree
  block_tree S n (block once list z) = select once (items_of list (zone_columns S n z)) (from_tree S n z) (where_of (condition_trees S n (n + from_items z) z))

  pub from_tree : List Table → ℕ → Zone → FromTree
  from_tree S n (table t w) = trees.table (table_name S t) (Some (alias_of n)) 0 0
  from_tree S n (derived b) = trees.derived (block_tree S (suc n) b) (alias_of n) (Some (place_names (block_width b))) 0 0
  from_tree S n (kept q cols z) = from_tree S n z
  from_tree S n (member cols z b) = from_tree S n z
  from_tree S n (inner_join a b l r) =
      trees.inner_join (from_tree S n l) (from_tree S (n + from_items l) r) (together (pair_trees (zone_columns S n l) (zone_columns S (n + from_items l) r) a b)) 0
  from_tree S n (left_join a b l r) =
      trees.left_join (from_tree S n l) (from_tree S (n + from_items l) r)
      (together (pair_trees (zone_columns S n l) (zone_columns S (n + from_items l) r) a b ++ condition_trees S (n + from_items l) (n + from_items l + from_items r) r)) 0

  pub condition_trees : List Table → ℕ → ℕ → Zone → List CondTree
  condition_trees S n m (table t w) = []
  condition_trees S n m (derived b) = []
  condition_trees S n m (kept q cols z) = condition_trees S n m z ++ test_tree (zone_columns S n z) cols q ∷ []
  condition_trees S n m (member cols z b) = condition_trees S n m z ++ trees.in_query 0 (columns_at (zone_columns S n z) cols) (block_tree S (m + condition_items z) b) 0 ∷ []
  condition_trees S n m (inner_join a b l r) = condition_trees S n m l ++ condition_trees S (n + from_items l) (m + condition_items l) r
  condition_trees S n m (left_join a b l r) = condition_trees S n m l

-- ---- the whole query

-- a SELECT list over a zone
abbrev pub chosen_tree : List Table → ℕ → Bool → List Item → Zone → QueryTree
chosen_tree S n once list z = select once list (from_tree S n z) (where_of (condition_trees S n (n + from_items z) z))

-- columns with names
abbrev pub named_items : List ScopeColumn → List ℕ → List (List ℕ) → List Item
named_items columns (k ∷ cols) (name ∷ names) = items.Column (column_at columns k) (Some name) ∷ named_items columns cols names
named_items columns _ _ = []

-- whether the columns have these names
abbrev pub have_names : List ScopeColumn → List (List ℕ) → Bool
have_names [] [] = true
have_names (s ∷ columns) (name ∷ names) = bytes_eq s.name name && have_names columns names
have_names _ _ = false

-- `*` gives the names that the zone's columns have; other names stand in a column list of the zone's block, which is q0
abbrev pub star_tree : Bool → List Table → Bool → Zone → List (List ℕ) → QueryTree
star_tree true S once z names = block_tree S 0 (block once None z)
star_tree false S once z names = select once (items.Star 0 ∷ []) (trees.derived (block_tree S 1 (block false None z)) (alias_of 0) (Some names) 0 0) no_filter

abbrev pub named_tree : List Table → Block → List (List ℕ) → QueryTree
named_tree S (block once (Some cols) z) names = chosen_tree S 0 once (named_items (zone_columns S 0 z) cols names) z
named_tree S (block once None z) names = star_tree (have_names (zone_columns S 0 z) names) S once z names

abbrev pub printed : List Table → PlanTree → List (List ℕ) → QueryTree
printed S p names = named_tree S (plan_block p) names
