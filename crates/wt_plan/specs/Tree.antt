-- The tree of a plan without where its parts lie in memory: whatever a clause says of a plan, it says of this.
use Rattle.std.specs.Prelude.{ℕ, List}
use Rattle.wt_pred.specs.Tree.{PredTree, pred_tree}
use Rattle.wt_plan.specs.declared.plan.Plan.{Plan}
use Rattle.wt_plan.specs.declared.plan.Plan.TheVariants.{Table, Proj', Filter', InnerJoin', LeftJoin', InSub', Dedup'}

-- A table of a number with so many columns; places of a row for the others; a filter's predicate is over the places of its
-- list; a join has a list for each operand.
pub data PlanTree : Type 0 where
  table : ℕ → ℕ → PlanTree
  proj : List ℕ → PlanTree → PlanTree
  filtered : PredTree → List ℕ → PlanTree → PlanTree
  inner_join : List ℕ → List ℕ → PlanTree → PlanTree → PlanTree
  left_join : List ℕ → List ℕ → PlanTree → PlanTree → PlanTree
  in_sub : List ℕ → PlanTree → PlanTree → PlanTree
  dedup : PlanTree → PlanTree

-- The function that forgets the pointers; in the patterns `p` and `q` are those.
abbrev pub plan_tree : Plan → PlanTree
plan_tree (Table number width) = table number width
plan_tree (Proj' cols p plan) = proj cols (plan_tree plan)
plan_tree (Filter' pred cols p plan) = filtered (pred_tree pred) cols (plan_tree plan)
plan_tree (InnerJoin' a b p left q right) = inner_join a b (plan_tree left) (plan_tree right)
plan_tree (LeftJoin' a b p left q right) = left_join a b (plan_tree left) (plan_tree right)
plan_tree (InSub' cols p left q right) = in_sub cols (plan_tree left) (plan_tree right)
plan_tree (Dedup' p plan) = dedup (plan_tree plan)
