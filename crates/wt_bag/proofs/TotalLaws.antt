-- The laws of sums over lists.
use Rattle.std.proofs.Common.{ℕ, ◌+◌, Bool, true, false, ◌&&◌, not, cond, List, [], ◌∷◌, ◌++◌, map, ◌≡◌, refl, sym, ap, ◌∙◌, arith}
use Rattle.std.specs.Prelude.{filter, flat_map}
use Rattle.wt_bag.specs.Bags.{total, only, Each}

-- the sum over two lists one after the other
pub total-append : {X : Type 0} (f : X → ℕ) (xs ys : List X) → total f (xs ++ ys) ≡ total f xs + total f ys
total-append f [] ys = omega arith
total-append f (x ∷ xs) ys = omega (arith, total-append f xs ys)

-- the sum over a list whose elements were mapped
pub total-map : {X Y : Type 0} (g : Y → ℕ) (f : X → Y) (xs : List X) → total g (map f xs) ≡ total (λ x. g (f x)) xs
total-map g f [] = refl
total-map g f (x ∷ xs) = omega (arith, total-map g f xs)

-- the sum over the lists of the elements, one after the other
pub total-flat_map : {X Y : Type 0} (g : Y → ℕ) (f : X → List Y) (xs : List X) → total g (flat_map f xs) ≡ total (λ x. total g (f x)) xs
total-flat_map g f [] = refl
total-flat_map g f (x ∷ xs) = omega (arith, total-flat_map g f xs, total-append g (f x) (flat_map f xs))

-- the sum over the elements that pass
pub total-filter : {X : Type 0} (g : X → ℕ) (p : X → Bool) (xs : List X) → total g (filter p xs) ≡ total (λ x. only (p x) (g x)) xs
total-filter g p [] = refl
total-filter g p (x ∷ xs) = here (p x) (total-filter g p xs)
  where
    here : (b : Bool) → total g (filter p xs) ≡ total (λ y. only (p y) (g y)) xs → total g (cond b (x ∷ filter p xs) (filter p xs)) ≡ only b (g x) + total (λ y. only (p y) (g y)) xs
    here true e = omega arith
    here false e = omega arith

-- functions that agree have the same sum
pub total_ext : {X : Type 0} (f g : X → ℕ) (xs : List X) → ((x : X) → f x ≡ g x) → total f xs ≡ total g xs
total_ext f g [] e = refl
total_ext f g (x ∷ xs) e = omega (arith, total_ext f g xs e, e x)

-- the sum of two functions
pub total-add : {X : Type 0} (f g : X → ℕ) (xs : List X) → total (λ x. f x + g x) xs ≡ total f xs + total g xs
total-add f g [] = refl
total-add f g (x ∷ xs) = omega (arith, total-add f g xs)

-- a sum of zeros
pub total-zero : {X : Type 0} (xs : List X) → total (λ _. 0) xs ≡ 0
total-zero [] = refl
total-zero (x ∷ xs) = omega (arith, total-zero xs)

-- two sums, exchanged
pub total_swap : {X Y : Type 0} (h : X → Y → ℕ) (xs : List X) (ys : List Y) →
    total (λ x. total (λ y. h x y) ys) xs ≡ total (λ y. total (λ x. h x y) xs) ys
total_swap h [] ys = sym (total-zero ys)
total_swap h (x ∷ xs) ys = ap (λ n. total (λ y. h x y) ys + n) (total_swap h xs ys) ∙ sym (total-add (λ y. h x y) (λ y. total (λ x'. h x' y) xs) ys)

-- a test before a sum stands at each element
pub only-total : {X : Type 0} (b : Bool) (f : X → ℕ) (xs : List X) → only b (total f xs) ≡ total (λ x. only b (f x)) xs
only-total true f xs = refl
only-total false f xs = sym (total-zero xs)

-- two tests at once are one after the other
pub only-and : (a b : Bool) (n : ℕ) → only (a && b) n ≡ only a (only b n)
only-and true b n = refl
only-and false b n = refl

-- a test and its negation
pub only_both : (b : Bool) (n : ℕ) → only b n + only (not b) n ≡ n
only_both true n = omega arith
only_both false n = omega arith

-- functions that agree at each element have the same sum
pub total_each : {X : Type 0} (f g : X → ℕ) (xs : List X) → Each (λ x. f x ≡ g x) xs → total f xs ≡ total g xs
total_each f g [] h = refl
total_each f g (x ∷ xs) h = omega (arith, h.0, total_each f g xs h.1)
