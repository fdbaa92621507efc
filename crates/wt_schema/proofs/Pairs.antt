-- Pairs of a list, as far as a loop over their first elements has come.
use Rattle.std.proofs.Common.{◌≡◌, ℕ, ◌+◌, ◌-◌, ◌<◌, ◌≤◌, List, length, get_or, drop, arith, below_more, sym, ap, ◌∙◌, subst, length-drop}
use Rattle.std.specs.List.{All, AllPairs}
use Rattle.std.proofs.lemmas.List.{get_or-drop, get_or_default}

abbrev pub PairsBelow : {X : Type 0} → (X → X → Type 0) → List X → ℕ → Type 0
PairsBelow {X} R xs n = (i j : ℕ) (d : X) → i < n → i < j → j < length xs → R (get_or xs i d) (get_or xs j d)

pub pairs_none : {X : Type 0} (R : X → X → Type 0) (xs : List X) → PairsBelow R xs 0
pairs_none R xs i j d l = absurd (omega arith)

pub pairs_all : {X : Type 0} (R : X → X → Type 0) (xs : List X) (n : ℕ) → length xs ≤ n → PairsBelow R xs n → AllPairs R xs
pairs_all R xs n h p i j d l m = p i j d (omega arith) l m

-- what all pairs say of one element and those behind it
pub pairs_from : {X : Type 0} (R : X → X → Type 0) (xs : List X) (n : ℕ) (x : X) → n < length xs → x ≡ get_or xs n x → AllPairs R xs → All (R x) (drop (n + 1) xs)
pairs_from R xs n x h is p k d l =
    subst (λ y. R y (get_or (drop (n + 1) xs) k d)) (get_or_default xs n d x h ∙ sym is)
    (subst (R (get_or xs n d)) (sym (get_or-drop (n + 1) xs k d)) (p n (n + 1 + k) d (omega arith) (omega (arith, length-drop (n + 1) xs))))

pub pairs_more : {X : Type 0} (R : X → X → Type 0) (xs : List X) (n : ℕ) (x : X) → n < length xs → x ≡ get_or xs n x → PairsBelow R xs n → All (R x) (drop (n + 1) xs) → PairsBelow R xs (n + 1)
pairs_more {X} R xs n x h is p here i j d l m o =
    below_more (λ i. (j : ℕ) (d : X) → i < j → j < length xs → R (get_or xs i d) (get_or xs j d)) n
    (λ i l j d m o. p i j d l m o)
    (λ j d m o.
    let place : n + 1 + (j - (n + 1)) ≡ j = omega arith in
    let there : R x (get_or (drop (n + 1) xs) (j - (n + 1)) d) = here (j - (n + 1)) d (omega (arith, length-drop (n + 1) xs)) in
    subst (λ y. R y (get_or xs j d)) (is ∙ get_or_default xs n x d h)
    (subst (λ y. R x y) (get_or-drop (n + 1) xs (j - (n + 1)) d ∙ ap (λ k. get_or xs k d) place) there))
    i l j d m o
