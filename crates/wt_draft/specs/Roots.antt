-- A plan or a draft, and its root.
use Rattle.wt_pred.specs.Tree.{pred_tree}
use Rattle.wt_plan.specs.Tree as trees
use Rattle.wt_plan.specs.Tree.{PlanTree, plan_tree}
use Rattle.wt_draft.specs.declared.any.AnyPlan.{AnyPlan}
use Rattle.wt_draft.specs.declared.any.AnyPlan.TheVariants.{Plan, Draft}
use Rattle.wt_draft.specs.declared.any.Root.{Root}
use Rattle.wt_draft.specs.declared.any.Root.TheVariants.{Table, Proj, Filter, InnerJoin, LeftJoin, InSub, Dedup}
use Rattle.wt_draft.specs.Drafts.{draft_tree}

abbrev pub any_tree : AnyPlan → PlanTree
any_tree (Plan plan) = plan_tree plan.now
any_tree (Draft draft) = draft_tree draft.now

-- the plan with this root
abbrev pub root_tree : Root → PlanTree
root_tree (Table number width) = trees.table number width
root_tree (Proj cols p) = trees.proj cols.now (any_tree p)
root_tree (Filter pred cols p) = trees.filtered (pred_tree pred.now) cols.now (any_tree p)
root_tree (InnerJoin a b p q) = trees.inner_join a.now b.now (any_tree p) (any_tree q)
root_tree (LeftJoin a b p q) = trees.left_join a.now b.now (any_tree p) (any_tree q)
root_tree (InSub cols p q) = trees.in_sub cols.now (any_tree p) (any_tree q)
root_tree (Dedup p) = trees.dedup (any_tree p)
