-- The nodes of a plan, numbered in preorder from 0.
use Rattle.std.specs.Prelude.{ℕ, zero, suc, ◌-◌, nat_lt, if◌then◌else◌}
use Rattle.wt_plan.specs.Tree.{PlanTree, table, proj, filtered, inner_join, left_join, in_sub, dedup}
use Rattle.wt_plan.specs.Measures.{node_count}

-- the subplan at a node
abbrev pub at : PlanTree → ℕ → PlanTree
at p zero = p
at (table t w) (suc n) = table t w
at (proj l p) (suc n) = at p n
at (filtered f l p) (suc n) = at p n
at (inner_join a b p q) (suc n) = if nat_lt n (node_count p) then at p n else at q (n - node_count p)
at (left_join a b p q) (suc n) = if nat_lt n (node_count p) then at p n else at q (n - node_count p)
at (in_sub a p q) (suc n) = if nat_lt n (node_count p) then at p n else at q (n - node_count p)
at (dedup p) (suc n) = at p n

-- the plan with another subplan at a node
abbrev pub put : PlanTree → ℕ → PlanTree → PlanTree
put p zero r = r
put (table t w) (suc n) r = table t w
put (proj l p) (suc n) r = proj l (put p n r)
put (filtered f l p) (suc n) r = filtered f l (put p n r)
put (inner_join a b p q) (suc n) r = if nat_lt n (node_count p) then inner_join a b (put p n r) q else inner_join a b p (put q (n - node_count p) r)
put (left_join a b p q) (suc n) r = if nat_lt n (node_count p) then left_join a b (put p n r) q else left_join a b p (put q (n - node_count p) r)
put (in_sub a p q) (suc n) r = if nat_lt n (node_count p) then in_sub a (put p n r) q else in_sub a p (put q (n - node_count p) r)
put (dedup p) (suc n) r = dedup (put p n r)
