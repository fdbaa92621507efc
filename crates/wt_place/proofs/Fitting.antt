-- What well formed plans have of that which placing asks.
use Rattle.std.proofs.Common.{◌≡◌, ◌<◌, subst, sym}
use Rattle.std.specs.Prelude.{List, Result, Ok, Err, IfOk}
use Rattle.wt_value.specs.Values.{Tuple, IsOneBag}
use Rattle.wt_plan.specs.declared.plan.Plan.{Plan}
use Rattle.wt_plan.specs.Tree.{PlanTree, plan_tree, table, proj, filtered, inner_join, left_join, in_sub, dedup}
use Rattle.wt_plan.specs.Rows.{plan_rows, TablesWide}
use Rattle.wt_plan.specs.WellFormed.{PlacesFit}
use Rattle.wt_place.specs.Placing.{placed}
use Rattle.wt_place.specs.Keeping.{Fits, ConditionsFit}

pub conditions_fit : (p : PlanTree) → PlacesFit p → ConditionsFit p
conditions_fit (table n w) h = tt
conditions_fit (proj cols p) h = conditions_fit p h.1
conditions_fit (dedup p) h = conditions_fit p h
conditions_fit (filtered q cols p) h = (h.0.within, conditions_fit p h.2)
conditions_fit (in_sub cols l r) h = (h.0.within, conditions_fit l h.2, conditions_fit r h.3)
conditions_fit (inner_join a b l r) h = (conditions_fit l h.1, conditions_fit r h.2)
conditions_fit (left_join a b l r) h = (conditions_fit l h.1, conditions_fit r h.2)

pub all_fit : (base : List (List Tuple)) (p : PlanTree) → ConditionsFit p → TablesWide base p → Fits base p
all_fit base (table n w) h k = k
all_fit base (proj cols p) h k = all_fit base p h k
all_fit base (dedup p) h k = all_fit base p h k
all_fit base (filtered q cols p) h k = (h.0, all_fit base p h.1 k)
all_fit base (in_sub cols l r) h k = (h.0, all_fit base l h.1 k.0, all_fit base r h.2 k.1)
all_fit base (inner_join a b l r) h k = (all_fit base l h.0 k.0, all_fit base r h.1 k.1)
all_fit base (left_join a b l r) h k = (all_fit base l h.0 k.0, all_fit base r h.1 k.1)

pub fits_conditions : (base : List (List Tuple)) (p : PlanTree) → Fits base p → ConditionsFit p
fits_conditions base (table n w) h = tt
fits_conditions base (proj cols p) h = fits_conditions base p h
fits_conditions base (dedup p) h = fits_conditions base p h
fits_conditions base (filtered q cols p) h = (h.0, fits_conditions base p h.1)
fits_conditions base (in_sub cols l r) h = (h.0, fits_conditions base l h.1, fits_conditions base r h.2)
fits_conditions base (inner_join a b l r) h = (fits_conditions base l h.0, fits_conditions base r h.1)
fits_conditions base (left_join a b l r) h = (fits_conditions base l h.0, fits_conditions base r h.1)

-- what holds of a tree, where the answer is that tree
pub if_tree : (t : PlanTree) (P : PlanTree → Type 0) {E : Type 0} (r : Result Plan E) → IfOk r (λ p. plan_tree p ≡ t) → P t → IfOk r (λ p. P (plan_tree p))
if_tree t P (Ok p) is h = subst P (sym is) h
if_tree t P (Err e) is h = tt
