-- What is known of the operators from a plan down, and that each makes of its first operand's part the part that it is.
use Rattle.std.proofs.Common.{Bor, ◌≡◌, ℕ, ◌+◌, ◌≤◌, List, [], ◌∷◌, ◌++◌, refl, append-nil, arith}
use Rattle.wt_schema.specs.declared.schema.Table.{Table}
use Rattle.wt_plan.specs.declared.plan.Plan.{Plan}
use Rattle.wt_plan.specs.Tree.{PlanTree, plan_tree, table, proj, filtered, inner_join, left_join, in_sub, dedup}
use Rattle.wt_plan.specs.Measures.{cost}
use Rattle.wt_plan.specs.WellFormed.{Narrow}
use Rattle.wt_blocks.specs.Blocks.{zone_of}
use Rattle.wt_blocks.specs.Counting.{from_items, condition_items}
use Rattle.wt_blocks.specs.Printed.{condition_trees, from_tree, zone_columns}
use Rattle.wt_query_of.specs.Descents.{AreDown, IsItem, above_columns, above_from, added_conditions, added_items, bottom, first_of, items_behind}

-- ---- one operator more at the end, or one less

pub down_more : (p : PlanTree) (ss : List (Bor Plan)) (s : Bor Plan) → AreDown p ss → plan_tree s.now ≡ bottom p ss → AreDown p (ss ++ s ∷ [])
down_more p [] s h e = (e, tt)
down_more p (x ∷ ss) s h e = (h.0, down_more (first_of p) ss s h.1 e)

pub down_last : (p : PlanTree) (ss : List (Bor Plan)) (s : Bor Plan) → AreDown p (ss ++ s ∷ []) → (plan_tree s.now ≡ bottom p ss) × AreDown p ss
down_last p [] s h = (h.0, tt)
down_last p (x ∷ ss) s h = let (is, others) = down_last (first_of p) ss s h.1 in (is, (h.0, others))

pub bottom_last : (p : PlanTree) (ss : List (Bor Plan)) (s : Bor Plan) → bottom p (ss ++ s ∷ []) ≡ first_of (bottom p ss)
bottom_last p [] s = refl
bottom_last p (x ∷ ss) s = bottom_last (first_of p) ss s

-- ---- what a plan has, each operand down has, and what it counts, each operand down counts no more of

narrow_first : (p : PlanTree) → Narrow p → Narrow (first_of p)
narrow_first (table n w) h = h
narrow_first (proj cols p) h = h
narrow_first (filtered q cols p) h = h
narrow_first (inner_join a b l r) h = h.1
narrow_first (left_join a b l r) h = h.1
narrow_first (in_sub cols l r) h = h.0
narrow_first (dedup p) h = h

pub narrow_bottom : (p : PlanTree) (ss : List (Bor Plan)) → Narrow p → Narrow (bottom p ss)
narrow_bottom p [] h = h
narrow_bottom p (s ∷ ss) h = narrow_bottom (first_of p) ss (narrow_first p h)

cost_first : (p : PlanTree) → cost (first_of p) ≤ cost p
cost_first (table n w) = omega arith
cost_first (proj cols p) = omega arith
cost_first (filtered q cols p) = omega arith
cost_first (inner_join a b l r) = omega arith
cost_first (left_join a b l r) = omega arith
cost_first (in_sub cols l r) = omega arith
cost_first (dedup p) = omega arith

pub cost_bottom : (p : PlanTree) (ss : List (Bor Plan)) → cost (bottom p ss) ≤ cost p
cost_bottom p [] = omega arith
cost_bottom p (s ∷ ss) = omega (arith, cost_bottom (first_of p) ss, cost_first p)

-- how many FROM items an operator adds
pub items_above : (p : PlanTree) → from_items (zone_of (first_of p)) + added_items p ≡ from_items (zone_of p)
items_above (table n w) = omega arith
items_above (proj cols p) = omega arith
items_above (filtered q cols p) = omega arith
items_above (inner_join a b l r) = refl
items_above (left_join a b l r) = refl
items_above (in_sub cols l r) = omega arith
items_above (dedup p) = omega arith

pub items_behind_above : (p : PlanTree) → condition_items (zone_of (first_of p)) + items_behind p ≡ condition_items (zone_of p)
items_behind_above (table n w) = omega arith
items_behind_above (proj cols p) = omega arith
items_behind_above (filtered q cols p) = omega arith
items_behind_above (inner_join a b l r) = refl
items_behind_above (left_join a b l r) = omega arith
items_behind_above (in_sub cols l r) = refl
items_behind_above (dedup p) = omega arith

pub from_bottom : (p : PlanTree) (ss : List (Bor Plan)) → from_items (zone_of (bottom p ss)) ≤ from_items (zone_of p)
from_bottom p [] = omega arith
from_bottom p (s ∷ ss) = omega (arith, from_bottom (first_of p) ss, items_above p)

pub behind_bottom : (p : PlanTree) (ss : List (Bor Plan)) → condition_items (zone_of (bottom p ss)) ≤ condition_items (zone_of p)
behind_bottom p [] = omega arith
behind_bottom p (s ∷ ss) = omega (arith, behind_bottom (first_of p) ss, items_behind_above p)

-- ---- an item has no conditions

pub item_conditions : (S : List Table) (n m : ℕ) (p : PlanTree) → IsItem p → condition_trees S n m (zone_of p) ≡ []
item_conditions S n m (table k w) h = refl
item_conditions S n m (proj cols p) h = refl
item_conditions S n m (dedup p) h = refl
item_conditions S n m (filtered _ _ _) h = elim h [ ]
item_conditions S n m (inner_join _ _ _ _) h = elim h [ ]
item_conditions S n m (left_join _ _ _ _) h = elim h [ ]
item_conditions S n m (in_sub _ _ _) h = elim h [ ]

pub item_behind : (p : PlanTree) → IsItem p → condition_items (zone_of p) ≡ 0
item_behind (table n w) h = refl
item_behind (proj cols p) h = refl
item_behind (dedup p) h = refl
item_behind (filtered _ _ _) h = elim h [ ]
item_behind (inner_join _ _ _ _) h = elim h [ ]
item_behind (left_join _ _ _ _) h = elim h [ ]
item_behind (in_sub _ _ _) h = elim h [ ]

-- ---- the part of an operator from that of its first operand

pub from_above : (S : List Table) (n : ℕ) (p : PlanTree) → above_from S (n + from_items (zone_of (first_of p))) (from_tree S n (zone_of (first_of p))) (zone_columns S n (zone_of (first_of p))) p
    ≡ from_tree S n (zone_of p)
from_above S n (table k w) = refl
from_above S n (proj cols p) = refl
from_above S n (filtered q cols p) = refl
from_above S n (inner_join a b l r) = refl
from_above S n (left_join a b l r) = refl
from_above S n (in_sub cols l r) = refl
from_above S n (dedup p) = refl

pub columns_above : (S : List Table) (n : ℕ) (p : PlanTree) → above_columns S (n + from_items (zone_of (first_of p))) (zone_columns S n (zone_of (first_of p))) p ≡ zone_columns S n (zone_of p)
columns_above S n (table k w) = refl
columns_above S n (proj cols p) = refl
columns_above S n (filtered q cols p) = refl
columns_above S n (inner_join a b l r) = refl
columns_above S n (left_join a b l r) = refl
columns_above S n (in_sub cols l r) = refl
columns_above S n (dedup p) = refl

pub conditions_above : (S : List Table) (n m : ℕ) (p : PlanTree)
    → condition_trees S n m (zone_of (first_of p)) ++ added_conditions S (n + from_items (zone_of (first_of p))) (m + condition_items (zone_of (first_of p))) (zone_columns S n (zone_of (first_of p))) p
    ≡ condition_trees S n m (zone_of p)
conditions_above S n m (table k w) = refl
conditions_above S n m (proj cols p) = refl
conditions_above S n m (filtered q cols p) = refl
conditions_above S n m (inner_join a b l r) = refl
conditions_above S n m (left_join a b l r) = append-nil (condition_trees S n m (zone_of l))
conditions_above S n m (in_sub cols l r) = refl
conditions_above S n m (dedup p) = refl
