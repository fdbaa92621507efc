-- Lists as bags: sums over a list, how often an element occurs, one bag, the distinct elements.
use Rattle.std.specs.Prelude.{ℕ, ◌+◌, ◌≤◌, Bool, true, false, not, List, [], ◌∷◌, filter, ◌≡◌}
use Rattle.std.specs.List.{list_any}

-- the sum of f over the elements
abbrev pub total : {X : Type 0} → (X → ℕ) → List X → ℕ
total f [] = 0
total f (x ∷ xs) = f x + total f xs

-- the number where the test holds, and else 0
abbrev pub only : Bool → ℕ → ℕ
only true n = n
only false n = 0

-- how often x occurs
abbrev pub count_of : {X : Type 0} → (X → X → Bool) → List X → X → ℕ
count_of same xs x = total (λ y. only (same x y) 1) xs

-- two lists are one bag: every element occurs equally often in both
pub record OneBag {X : Type 0} (same : X → X → Bool) (xs ys : List X) : Type 0 where
  pub counts : (x : X) → count_of same xs x ≡ count_of same ys x

-- every sum over the one list is that over the other: what proofs use for one bag
pub record SameSums {X : Type 0} (xs ys : List X) : Type 0 where
  pub sums : (g : X → ℕ) → total g xs ≡ total g ys

-- the same elements, however often: each test finds one in both lists or in neither
pub record SameElements {X : Type 0} (xs ys : List X) : Type 0 where
  pub tests : (p : X → Bool) → list_any p xs ≡ list_any p ys

-- the test holds of equal elements alone
pub record DecidesEquality {X : Type 0} (same : X → X → Bool) : Type 0 where
  pub sound : (x y : X) → same x y ≡ true → x ≡ y
  pub reflexive : (x : X) → same x x ≡ true

-- the test holds of equal elements alone, though not of each element and itself
pub record PassesEqualOnly {X : Type 0} (matching : X → X → Bool) : Type 0 where
  pub equal : (x y : X) → matching x y ≡ true → x ≡ y

-- whether x is among the elements
abbrev pub among : {X : Type 0} → (X → X → Bool) → List X → X → Bool
among same xs x = list_any (λ y. same x y) xs

-- the first of each group of equal elements, in order
abbrev pub distinct : {X : Type 0} → (X → X → Bool) → List X → List X
distinct same [] = []
distinct same (x ∷ xs) = x ∷ filter (λ y. not (same x y)) (distinct same xs)

-- at most one element passes
abbrev pub AtMostOne : {X : Type 0} → (X → Bool) → List X → Type 0
AtMostOne p xs = total (λ x. only (p x) 1) xs ≤ 1

-- each element has the property
abbrev pub Each : {X : Type 0} → (X → Type 0) → List X → Type 0
Each P [] = Unit {0}
Each P (x ∷ xs) = P x × Each P xs
