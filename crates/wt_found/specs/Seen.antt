-- What the walk as code holds, as the definitions speak of it.
use Rattle.std.specs.Prelude.{ℕ, List, map, Option, Some, None}
use Rattle.std.specs.Borrow.{Bor}
use Rattle.wt_pred.specs.declared.tree.Pred.{Pred}
use Rattle.wt_pred.specs.Tree.{PredTree, pred_tree}
use Rattle.wt_instance.specs.declared.named.Column.{Column}
use Rattle.wt_instance.specs.Rows.{column}
use Rattle.wt_plan.specs.declared.plan.Plan.{Plan}
use Rattle.wt_plan.specs.Tree.{PlanTree, plan_tree}
use Rattle.wt_matching.specs.Filling.{Assigned}
use Rattle.wt_matching.specs.Finding.{Maybe, nothing, just}
use Rattle.wt_matching.specs.Finding as spec
use Rattle.wt_found.specs.declared.columns.Shown.{Shown}
use Rattle.wt_found.specs.declared.walk.Found.{Found}

-- the columns by their names
abbrev pub named : List Shown → List Column
named columns = map (λ (c : Shown). column c.leaf c.number) columns

-- the columns of a leaf that a list has
abbrev pub listed : ℕ → List ℕ → List Column
listed r numbers = map (column r) numbers

abbrev pub as_maybe : {X : Type 0} → Option X → Maybe X
as_maybe None = nothing
as_maybe (Some x) = just x

-- what references to plans and to predicates show
abbrev pub plans_behind : List (Bor Plan) → List PlanTree
plans_behind plans = map (λ (p : Bor Plan). plan_tree p.now) plans

abbrev pub preds_behind : List (Bor Pred) → List PredTree
preds_behind preds = map (λ (f : Bor Pred). pred_tree f.now) preds

-- what was found, the pointers forgotten
abbrev pub seen : Found → spec.Found
seen x = record { columns = named x.columns.items; leaves = plans_behind x.leaves.items; lists = x.lists.items; preds = preds_behind x.preds.items }

abbrev pub seen_or_not : Option Found → Maybe spec.Found
seen_or_not None = nothing
seen_or_not (Some x) = just (seen x)

-- the assignment that was found
abbrev pub assigned_in : Found → Assigned
assigned_in x = record { leaves = plans_behind x.leaves.items; lists = x.lists.items; preds = preds_behind x.preds.items }
