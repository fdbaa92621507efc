-- Choices of one element from each of several lists, and pairings of two lists.
use Rattle.std.specs.Prelude.{ℕ, zero, suc, ◌<◌, ◌≡◌, ◌≢◌, ◌⊎◌, Bool, true, List, [], ◌∷◌, length, get_or, map, flat_map}
use Rattle.wt_bag.specs.Bags.{SameSums, Each}

-- one element of each list, in every way; the first list's choice is the outermost
abbrev pub choices : {X : Type 0} → List (List X) → List (List X)
choices [] = [] ∷ []
choices (r ∷ rs) = flat_map (λ c. map (λ e. c ∷ e) (choices rs)) r

-- equally many places and elements, each element as its place asks
abbrev pub Fitting : {X K : Type 0} → (K → X → Type 0) → List K → List X → Type 0
Fitting P [] [] = Unit {0}
Fitting P (k ∷ ks) (x ∷ xs) = P k x × Fitting P ks xs
Fitting P [] (x ∷ xs) = ⊥
Fitting P (k ∷ ks) [] = ⊥

-- x put in at place k, or at the end of a shorter list
abbrev pub put_at : {X : Type 0} → ℕ → X → List X → List X
put_at zero x xs = x ∷ xs
put_at (suc k) x [] = x ∷ []
put_at (suc k) x (y ∷ ys) = y ∷ put_at k x ys

-- the list without the element at place k
abbrev pub drop_at : {X : Type 0} → ℕ → List X → List X
drop_at k [] = []
drop_at zero (x ∷ xs) = xs
drop_at (suc k) (x ∷ xs) = x ∷ drop_at k xs

-- there is an element at place k, and it has the property
abbrev pub At : {X : Type 0} → (X → Type 0) → ℕ → List X → Type 0
At P k [] = ⊥
At P zero (x ∷ xs) = P x
At P (suc k) (x ∷ xs) = At P k xs

-- each element takes a related one, at a place among those that are left
abbrev pub PairsBy : {X : Type 0} → (X → X → Bool) → List X → List X → Type 0
PairsBy related [] ys = ys ≡ []
PairsBy related (x ∷ xs) ys = (j : ℕ) × At (λ y. related x y ≡ true) j ys × PairsBy related xs (drop_at j ys)

-- each list takes a place among those that are left; the lists at paired places are one bag
abbrev pub Paired : {X : Type 0} → List ℕ → List (List X) → List (List X) → Type 0
Paired [] [] gs = gs ≡ []
Paired (k ∷ ks) (r ∷ rs) gs = (k < length gs) × SameSums r (get_or gs k []) × Paired ks rs (drop_at k gs)
Paired [] (r ∷ rs) gs = ⊥
Paired (k ∷ ks) [] gs = ⊥

-- a choice put into the order of the other lists
abbrev pub arrange : {X : Type 0} → List ℕ → List X → List X
arrange [] e = []
arrange (k ∷ ks) [] = []
arrange (k ∷ ks) (x ∷ e) = put_at k x (arrange ks e)

-- no element is equal to a later one
abbrev pub Apart : {X : Type 0} → List X → Type 0
Apart [] = Unit {0}
Apart (x ∷ xs) = Each (λ y. x ≢ y) xs × Apart xs

-- R holds of each element and each later one
abbrev pub EachLater : {X : Type 0} → (X → X → Type 0) → List X → Type 0
EachLater R [] = Unit {0}
EachLater R (x ∷ xs) = Each (R x) xs × EachLater R xs

-- x is one of the elements
abbrev pub Has : {X : Type 0} → X → List X → Type 0
Has x [] = ⊥
Has x (y ∷ ys) = (x ≡ y) ⊎ Has x ys
