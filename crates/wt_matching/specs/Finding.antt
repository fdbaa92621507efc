-- The one assignment that can make a source the plan at a node: both are walked together. A walk as code will find it so.
use Rattle.std.specs.Prelude.{◌≡◌, ◌==◌, ℕ, suc, ◌<◌, ◌&&◌, List, [], ◌∷◌, ◌++◌, map, length, slice_index_or, if◌then◌else◌}
use Rattle.wt_bag.specs.Bags.{Each}
use Rattle.wt_pred.specs.Tree.{PredTree}
use Rattle.wt_symbol.specs.Sides as sides
use Rattle.wt_symbol.specs.Sides.{SideTree, leaves_of, lists_of, preds_of}
use Rattle.wt_symbol.specs.Heads.{anchor}
use Rattle.wt_instance.specs.declared.named.Column.{Column}
use Rattle.wt_instance.specs.Rows.{column, leaf_columns}
use Rattle.wt_plan.specs.Tree.{PlanTree, proj, filtered, inner_join, left_join, in_sub, dedup}
use Rattle.wt_plan.specs.Measures.{width}
use Rattle.wt_matching.specs.Filling.{Assigned, leaf_plan, list_of, pred_of, header, place}

-- a value, or none
pub data Maybe (X : Type 0) : Type 0 where
  nothing : Maybe X
  just : X → Maybe X

abbrev pub and_then : {X Y : Type 0} → Maybe X → (X → Maybe Y) → Maybe Y
and_then nothing f = nothing
and_then (just x) f = f x

-- the number of a place: the place has a column of the leaf, and is the first that has it
abbrev pub number_at : List Column → ℕ → ℕ → Maybe ℕ
number_at columns r k = if_column (slice_index_or columns k (column (suc r) 0))
  where
    if_column : Column → Maybe ℕ
    if_column c = if (c.leaf == r) && (place columns r c.number == k) then just c.number else nothing

abbrev pub numbers_at : List Column → ℕ → List ℕ → Maybe (List ℕ)
numbers_at columns r [] = just []
numbers_at columns r (k ∷ l) = and_then (number_at columns r k) (λ n. and_then (numbers_at columns r l) (λ ns. just (n ∷ ns)))

-- what was found: the columns of the side's output, and what its symbols stand for, in preorder
pub record Found : Type 0 where
  pub columns : List Column
  pub leaves : List PlanTree
  pub lists : List (List ℕ)
  pub preds : List PredTree

abbrev pub found_join : ℕ → ℕ → List ℕ → List ℕ → Maybe Found → Maybe Found → Maybe Found
found_join r s a b left right =
    and_then left (λ x. and_then right (λ y. and_then (numbers_at x.columns r a) (λ ns. and_then (numbers_at y.columns s b) (λ ms.
    just (record { columns = x.columns ++ y.columns; leaves = x.leaves ++ y.leaves; lists = ns ∷ ms ∷ (x.lists ++ y.lists); preds = x.preds ++ y.preds })))))

abbrev pub found : SideTree → List ℕ → PlanTree → Maybe Found
found (sides.input r) A p = just (record { columns = leaf_columns r 0 (width p); leaves = p ∷ []; lists = []; preds = [] })
found (sides.proj a s) A (proj l p) =
    and_then (found s A p) (λ x. and_then (numbers_at x.columns (anchor A a) l) (λ ns.
    just (record { columns = map (column (anchor A a)) ns; leaves = x.leaves; lists = ns ∷ x.lists; preds = x.preds })))
found (sides.filtered q a s) A (filtered f l p) =
    and_then (found s A p) (λ x. and_then (numbers_at x.columns (anchor A a) l) (λ ns.
    just (record { columns = x.columns; leaves = x.leaves; lists = ns ∷ x.lists; preds = f ∷ x.preds })))
found (sides.inner_join a b s t) A (inner_join k l p q) = found_join (anchor A a) (anchor A b) k l (found s A p) (found t A q)
found (sides.left_join a b s t) A (left_join k l p q) = found_join (anchor A a) (anchor A b) k l (found s A p) (found t A q)
found (sides.in_sub a s t) A (in_sub k p q) =
    and_then (found s A p) (λ x. and_then (found t A q) (λ y. and_then (numbers_at x.columns (anchor A a) k) (λ ns.
    just (record { columns = x.columns; leaves = x.leaves ++ y.leaves; lists = ns ∷ (x.lists ++ y.lists); preds = x.preds ++ y.preds }))))
found (sides.dedup s) A (dedup p) = found s A p
found _ A p = nothing

-- the assignment gives the side's symbols, in preorder, what was found
pub record Reads (m : Assigned) (s : SideTree) (x : Found) : Type 0 where
  pub leaves : x.leaves ≡ map (leaf_plan m) (leaves_of s)
  pub lists : x.lists ≡ map (list_of m) (lists_of s)
  pub preds : x.preds ≡ map (pred_of m) (preds_of s)

-- each number of a list is a column of the operand's output
abbrev pub IsPlaced : SideTree → List ℕ → Assigned → ℕ → Type 0
IsPlaced s A m a = Each (λ n. place (header s A m) (anchor A a) n < length (header s A m)) (list_of m a)

abbrev pub ArePlaced : SideTree → List ℕ → Assigned → Type 0
ArePlaced (sides.input r) A m = Unit {0}
ArePlaced (sides.proj a s) A m = IsPlaced s A m a × ArePlaced s A m
ArePlaced (sides.filtered p a s) A m = IsPlaced s A m a × ArePlaced s A m
ArePlaced (sides.inner_join a b s t) A m = IsPlaced s A m a × IsPlaced t A m b × ArePlaced s A m × ArePlaced t A m
ArePlaced (sides.left_join a b s t) A m = IsPlaced s A m a × IsPlaced t A m b × ArePlaced s A m × ArePlaced t A m
ArePlaced (sides.in_sub a s t) A m = IsPlaced s A m a × ArePlaced s A m × ArePlaced t A m
ArePlaced (sides.dedup s) A m = ArePlaced s A m
