-- What the laws of placing ask of a plan, and when a plan is placed.
use Rattle.std.specs.Prelude.{◌≡◌, ℕ, ◌<◌, List, length}
use Rattle.wt_bag.specs.Bags.{Each}
use Rattle.wt_value.specs.Values.{Tuple}
use Rattle.wt_schema.specs.Satisfying.{rows_of}
use Rattle.wt_plan.specs.Tree.{PlanTree, table, proj, filtered, inner_join, left_join, in_sub, dedup}
use Rattle.wt_plan.specs.Measures.{width}
use Rattle.wt_place.specs.Placing.{placed}

-- placing it again changes nothing
abbrev pub IsPlaced : PlanTree → Type 0
IsPlaced p = placed p ≡ p

-- the rows of the plan's tables have the widths that it names, and its conditions' columns are there
abbrev pub Fits : List (List Tuple) → PlanTree → Type 0
Fits base (table n w) = Each (λ (row : Tuple). length row ≡ w) (rows_of base n)
Fits base (proj cols p) = Fits base p
Fits base (dedup p) = Fits base p
Fits base (filtered q cols p) = Each (λ k. k < width p) cols × Fits base p
Fits base (in_sub cols l r) = Each (λ k. k < width l) cols × Fits base l × Fits base r
Fits base (inner_join a b l r) = Fits base l × Fits base r
Fits base (left_join a b l r) = Fits base l × Fits base r

-- the columns of each condition are there
abbrev pub ConditionsFit : PlanTree → Type 0
ConditionsFit (table n w) = Unit {0}
ConditionsFit (proj cols p) = ConditionsFit p
ConditionsFit (dedup p) = ConditionsFit p
ConditionsFit (filtered q cols p) = Each (λ k. k < width p) cols × ConditionsFit p
ConditionsFit (in_sub cols l r) = Each (λ k. k < width l) cols × ConditionsFit l × ConditionsFit r
ConditionsFit (inner_join a b l r) = ConditionsFit l × ConditionsFit r
ConditionsFit (left_join a b l r) = ConditionsFit l × ConditionsFit r
