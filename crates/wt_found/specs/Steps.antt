-- The walk operator by operator, from what its operands gave, and the test of operators that stands before it.
use Rattle.std.specs.Prelude.{ℕ, Bool, true, false, ◌&&◌, List, [], ◌∷◌, ◌++◌, map}
use Rattle.wt_pred.specs.Tree.{PredTree}
use Rattle.wt_symbol.specs.Sides as sides
use Rattle.wt_symbol.specs.Sides.{SideTree}
use Rattle.wt_instance.specs.Rows.{column, leaf_columns}
use Rattle.wt_plan.specs.Tree.{PlanTree, proj, filtered, inner_join, left_join, in_sub, dedup}
use Rattle.wt_plan.specs.Measures.{width}
use Rattle.wt_matching.specs.Finding.{Maybe, just, and_then, numbers_at, Found}

-- a leaf stands for the whole plan
abbrev pub found_leaf : ℕ → PlanTree → Found
found_leaf r p = record { columns = leaf_columns r 0 (width p); leaves = p ∷ []; lists = []; preds = [] }

-- a Proj, from its list's leaf and places and what was found below
abbrev pub found_proj : ℕ → List ℕ → Maybe Found → Maybe Found
found_proj r l below =
    and_then below (λ x. and_then (numbers_at x.columns r l) (λ ns.
    just (record { columns = map (column r) ns; leaves = x.leaves; lists = ns ∷ x.lists; preds = x.preds })))

-- a Filter, which has a predicate too
abbrev pub found_filter : ℕ → PredTree → List ℕ → Maybe Found → Maybe Found
found_filter r f l below =
    and_then below (λ x. and_then (numbers_at x.columns r l) (λ ns.
    just (record { columns = x.columns; leaves = x.leaves; lists = ns ∷ x.lists; preds = f ∷ x.preds })))

-- an InSub, from both operands
abbrev pub found_member : ℕ → List ℕ → Maybe Found → Maybe Found → Maybe Found
found_member r k left right =
    and_then left (λ x. and_then right (λ y. and_then (numbers_at x.columns r k) (λ ns.
    just (record { columns = x.columns; leaves = x.leaves ++ y.leaves; lists = ns ∷ (x.lists ++ y.lists); preds = x.preds ++ y.preds }))))

-- what was found in both operands, with the columns of the left one
abbrev pub with_symbols : Found → Found → Found
with_symbols x y = record { columns = x.columns; leaves = x.leaves ++ y.leaves; lists = x.lists ++ y.lists; preds = x.preds ++ y.preds }

-- the plan has the side's operators down to its leaves
abbrev pub shaped : SideTree → PlanTree → Bool
shaped (sides.input r) p = true
shaped (sides.proj a s) (proj l p) = shaped s p
shaped (sides.filtered q a s) (filtered f l p) = shaped s p
shaped (sides.inner_join a b s t) (inner_join k l p q) = shaped s p && shaped t q
shaped (sides.left_join a b s t) (left_join k l p q) = shaped s p && shaped t q
shaped (sides.in_sub a s t) (in_sub k p q) = shaped s p && shaped t q
shaped (sides.dedup s) (dedup p) = shaped s p
shaped _ p = false
