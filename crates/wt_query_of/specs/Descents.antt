-- Of contracts of private functions alone: a zone as its first FROM item and the operators above it, each of which adds to what
-- stands below.
use Rattle.std.proofs.Common.{Bor}
use Rattle.std.specs.Prelude.{◌≡◌, ℕ, ◌+◌, List, [], ◌∷◌, ◌++◌}
use Rattle.wt_ast.specs.Tree.{FromTree, CondTree}
use Rattle.wt_ast.specs.Tree as trees
use Rattle.wt_schema.specs.declared.schema.Table.{Table}
use Rattle.wt_query_rows.specs.declared.scope.ScopeColumn.{ScopeColumn}
use Rattle.wt_plan.specs.declared.plan.Plan.{Plan}
use Rattle.wt_plan.specs.Tree.{PlanTree, plan_tree, table, proj, filtered, inner_join, left_join, in_sub, dedup}
use Rattle.wt_blocks.specs.Blocks.{zone_of, plan_block}
use Rattle.wt_blocks.specs.Counting.{block_items, from_items, condition_items}
use Rattle.wt_blocks.specs.Printed.{block_tree, columns_at, condition_trees, from_tree, pair_trees, test_tree, together, zone_columns}

-- the operand whose FROM items come first; an item is its own
abbrev pub first_of : PlanTree → PlanTree
first_of (filtered q cols p) = p
first_of (inner_join a b l r) = l
first_of (left_join a b l r) = l
first_of (in_sub cols l r) = l
first_of p = p

-- a plan that is one FROM item: a table, or a query in parentheses
abbrev pub IsItem : PlanTree → Type 0
IsItem (table n w) = Unit {0}
IsItem (proj cols p) = Unit {0}
IsItem (dedup p) = Unit {0}
IsItem p = ⊥

-- the operators from a plan down, each the first operand of the one before it
abbrev pub AreDown : PlanTree → List (Bor Plan) → Type 0
AreDown p [] = Unit {0}
AreDown p (s ∷ ss) = (plan_tree s.now ≡ p) × AreDown (first_of p) ss

-- what the last of so many operators stands on
abbrev pub bottom : PlanTree → List (Bor Plan) → PlanTree
bottom p [] = p
bottom p (s ∷ ss) = bottom (first_of p) ss

-- What stands above a part: its FROM clause, its columns, the conditions that are added, and the next numbers of FROM items, in the
-- FROM clause and behind it. `from` and `columns` are those of the first operand, `n` and `m` the next numbers behind it.

abbrev pub above_from : List Table → ℕ → FromTree → List ScopeColumn → PlanTree → FromTree
above_from S n from columns (inner_join a b l r) =
    trees.inner_join from (from_tree S n (zone_of r)) (together (pair_trees columns (zone_columns S n (zone_of r)) a b)) 0
above_from S n from columns (left_join a b l r) =
    trees.left_join from (from_tree S n (zone_of r))
    (together (pair_trees columns (zone_columns S n (zone_of r)) a b ++ condition_trees S n (n + from_items (zone_of r)) (zone_of r))) 0
above_from S n from columns p = from

abbrev pub above_columns : List Table → ℕ → List ScopeColumn → PlanTree → List ScopeColumn
above_columns S n columns (inner_join a b l r) = columns ++ zone_columns S n (zone_of r)
above_columns S n columns (left_join a b l r) = columns ++ zone_columns S n (zone_of r)
above_columns S n columns p = columns

abbrev pub added_conditions : List Table → ℕ → ℕ → List ScopeColumn → PlanTree → List CondTree
added_conditions S n m columns (filtered q cols p) = test_tree columns cols q ∷ []
added_conditions S n m columns (in_sub cols l r) = trees.in_query 0 (columns_at columns cols) (block_tree S m (plan_block r)) 0 ∷ []
added_conditions S n m columns (inner_join a b l r) = condition_trees S n m (zone_of r)
added_conditions S n m columns p = []

abbrev pub added_items : PlanTree → ℕ
added_items (inner_join a b l r) = from_items (zone_of r)
added_items (left_join a b l r) = from_items (zone_of r) + condition_items (zone_of r)
added_items p = 0

abbrev pub items_behind : PlanTree → ℕ
items_behind (in_sub cols l r) = block_items (plan_block r)
items_behind (inner_join a b l r) = condition_items (zone_of r)
items_behind p = 0
