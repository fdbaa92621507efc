-- How wide a plan's rows are, what the plan costs, and how many nodes it has.
use Rattle.std.specs.Prelude.{ℕ, ◌+◌, length}
use Rattle.wt_plan.specs.Tree.{PlanTree, table, proj, filtered, inner_join, left_join, in_sub, dedup}

abbrev pub width : PlanTree → ℕ
width (table number columns) = columns
width (proj cols p) = length cols
width (filtered pred cols p) = width p
width (inner_join a b l r) = width l + width r
width (left_join a b l r) = width l + width r
width (in_sub cols l r) = width l
width (dedup p) = width p

-- the sum of the weights of its nodes: 1 for a table, a Proj and a Filter, 3 for a Dedup, 4 for an InSub, 6 for an
-- InnerJoin, 7 for a LeftJoin
abbrev pub cost : PlanTree → ℕ
cost (table number columns) = 1
cost (proj cols p) = 1 + cost p
cost (filtered pred cols p) = 1 + cost p
cost (inner_join a b l r) = 6 + (cost l + cost r)
cost (left_join a b l r) = 7 + (cost l + cost r)
cost (in_sub cols l r) = 4 + (cost l + cost r)
cost (dedup p) = 3 + cost p

abbrev pub node_count : PlanTree → ℕ
node_count (table number columns) = 1
node_count (proj cols p) = 1 + node_count p
node_count (filtered pred cols p) = 1 + node_count p
node_count (inner_join a b l r) = 1 + (node_count l + node_count r)
node_count (left_join a b l r) = 1 + (node_count l + node_count r)
node_count (in_sub cols l r) = 1 + (node_count l + node_count r)
node_count (dedup p) = 1 + node_count p
