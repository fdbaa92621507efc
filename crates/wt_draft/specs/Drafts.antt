-- The plan that a draft is.
use Rattle.std.specs.Prelude.{ℕ, List}
use Rattle.wt_pred.specs.Tree.{pred_tree}
use Rattle.wt_plan.specs.Tree.{PlanTree, plan_tree, proj, filtered, inner_join, left_join, in_sub, dedup}
use Rattle.wt_draft.specs.declared.draft.Places.{Places}
use Rattle.wt_draft.specs.declared.draft.Places.TheVariants.{Own, Of}
use Rattle.wt_draft.specs.declared.draft.Draft.{Draft}
use Rattle.wt_draft.specs.declared.draft.Draft.TheVariants.{Whole, Proj', Filter', InnerJoin', LeftJoin', InSub', Dedup'}

abbrev pub listed : Places → List ℕ
listed (Own cols) = cols
listed (Of cols) = cols.now

-- The function that forgets which parts are borrowed; in the patterns `p` and `q` are pointers.
abbrev pub draft_tree : Draft → PlanTree
draft_tree (Whole plan) = plan_tree plan.now
draft_tree (Proj' cols p below) = proj (listed cols) (draft_tree below)
draft_tree (Filter' pred cols p below) = filtered (pred_tree pred.now) (listed cols) (draft_tree below)
draft_tree (InnerJoin' a b p left q right) = inner_join (listed a) (listed b) (draft_tree left) (draft_tree right)
draft_tree (LeftJoin' a b p left q right) = left_join (listed a) (listed b) (draft_tree left) (draft_tree right)
draft_tree (InSub' cols p left q right) = in_sub (listed cols) (draft_tree left) (draft_tree right)
draft_tree (Dedup' p below) = dedup (draft_tree below)
