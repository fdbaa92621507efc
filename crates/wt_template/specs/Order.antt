-- The order of operator trees, generic in the trees: by size, then by root in the order of the table of
-- operators, then by operands (for two of them: the left one's size, the left one, the right one), and
-- last by the root's own variant. A variant is what may differ at one operator over the same operands;
-- a template has one for each operator, and a side has one for each choice of symbols.
use Rattle.std.specs.Prelude.{ℕ, zero, suc, ◌+◌, List, [], ◌∷◌, map}
use Rattle.std.specs.List.{flat_map}

-- an operator, by what its variants make of its operand, or of its two operands
pub data Maker (X : Type 0) : Type 0 where
  of_one : List (X → X) → Maker X
  of_two : List (X → X → X) → Maker X

-- n numbers from i on
abbrev pub numbers_from : ℕ → ℕ → List ℕ
numbers_from i zero = []
numbers_from i (suc n) = i ∷ numbers_from (suc i) n

-- two sizes whose sum is i + j, the left one at least i, in the order of the left one
abbrev pub splits_from : ℕ → ℕ → List (ℕ × ℕ)
splits_from i zero = (i, 0) ∷ []
splits_from i (suc j) = (i, suc j) ∷ splits_from (suc i) j

-- each variant over each operand
abbrev pub over_one : {X : Type 0} → List (X → X) → List X → List X
over_one variants xs = flat_map (λ x. map (λ v. v x) variants) xs

-- each variant over each left and each right operand
abbrev pub over_two : {X : Type 0} → List (X → X → X) → List X → List X → List X
over_two variants xs ys = flat_map (λ x. flat_map (λ y. map (λ v. v x y) variants) ys) xs

-- the trees under one root whose operands have n operators together; `smaller` gives the trees of each size up to n
abbrev pub under_root : {X : Type 0} → (ℕ → List X) → ℕ → Maker X → List X
under_root smaller n (of_one variants) = over_one variants (smaller n)
under_root smaller n (of_two variants) = flat_map (λ s. over_two variants (smaller s.0) (smaller s.1)) (splits_from 0 n)

-- the trees with as many operators as the last number says, in order; the bound before it carries the recursion alone, and is any number not below that one
abbrev pub trees : {X : Type 0} → List X → List (Maker X) → ℕ → ℕ → List X
trees leaves makers bound zero = leaves
trees leaves makers zero (suc n) = []
trees leaves makers (suc bound) (suc n) = flat_map (under_root (trees leaves makers bound) n) makers

-- the trees of `many` sizes from `least` on, the smaller ones first
abbrev pub trees_of_sizes : {X : Type 0} → List X → List (Maker X) → ℕ → ℕ → List X
trees_of_sizes leaves makers least many = flat_map (trees leaves makers (least + many)) (numbers_from least many)
