-- One bag by counts is one bag by sums; lists with the same elements have the same distinct ones.
use Rattle.std.proofs.Common.{ℕ, zero, suc, ◌+◌, ◌*◌, ◌<◌, ◌≤◌, Bool, true, false, ◌||◌, not, cond, List, [], ◌∷◌, map, ◌≡◌, refl, sym, ap, ◌∙◌, arith}
use Rattle.std.specs.Prelude.{filter}
use Rattle.std.specs.List.{list_any}
use Rattle.wt_bag.specs.Bags.{total, only, count_of, OneBag, SameSums, SameElements, DecidesEquality, AtMostOne, among, distinct, Each}
use Rattle.wt_bag.proofs.EachLaws.{each_implies, each_distinct, filter_each}
use Rattle.wt_bag.proofs.TotalLaws.{total_ext, total-filter, total-zero}

abbrev pub positive : ℕ → Bool
positive zero = false
positive (suc n) = true

-- whether an element passes, by a sum
pub list_any-total : {X : Type 0} (p : X → Bool) (xs : List X) → list_any p xs ≡ positive (total (λ x. only (p x) 1) xs)
list_any-total p [] = refl
list_any-total p (x ∷ xs) = here (p x) (list_any-total p xs)
  where
    here : (b : Bool) → list_any p xs ≡ positive (total (λ y. only (p y) 1) xs) → (b || list_any p xs) ≡ positive (only b 1 + total (λ y. only (p y) 1) xs)
    here true e = let n : 1 + total (λ y. only (p y) 1) xs ≡ suc (total (λ y. only (p y) 1) xs) = omega arith in rw n
    here false e = let n : 0 + total (λ y. only (p y) 1) xs ≡ total (λ y. only (p y) 1) xs = omega arith in rw n e

-- equal sums: the same elements
pub same_elements : {X : Type 0} (xs ys : List X) → SameSums xs ys → SameElements xs ys
same_elements xs ys h = record { tests = λ p. list_any-total p xs ∙ ap positive (h.sums (λ x. only (p x) 1)) ∙ sym (list_any-total p ys) }

pub total-times : {X : Type 0} (p : X → Bool) (n : ℕ) (xs : List X) → total (λ x. only (p x) n) xs ≡ total (λ x. only (p x) 1) xs * n
total-times p n [] = omega arith
total-times p n (x ∷ xs) = here (p x) (total-times p n xs)
  where
    here : (b : Bool) → total (λ y. only (p y) n) xs ≡ total (λ y. only (p y) 1) xs * n → only b n + total (λ y. only (p y) n) xs ≡ (only b 1 + total (λ y. only (p y) 1) xs) * n
    here true e = omega arith
    here false e = omega arith

only-positive : (k n : ℕ) → k ≤ 1 → k * n ≡ only (positive k) n
only-positive zero n l = omega arith
only-positive (suc zero) n l = omega arith
only-positive (suc (suc k)) n l = let bad : ⊥ = omega arith in absurd bad

-- where at most one passes, a sum over those that pass is one test
pub total_at_most_one : {X : Type 0} (p : X → Bool) (n : ℕ) (xs : List X) → AtMostOne p xs → total (λ x. only (p x) n) xs ≡ only (list_any p xs) n
total_at_most_one p n xs h = total-times p n xs ∙ only-positive (total (λ x. only (p x) 1) xs) n h ∙ ap (λ b. only b n) (sym (list_any-total p xs))

-- equal sums: equal counts
pub one_bag : {X : Type 0} (same : X → X → Bool) (xs ys : List X) → SameSums xs ys → OneBag same xs ys
one_bag same xs ys h = record { counts = λ x. h.sums (λ y. only (same x y) 1) }

module _ {X : Type 0} (same : X → X → Bool) (decides : DecidesEquality same) where
  abbrev remove_first : X → List X → List X
  remove_first x [] = []
  remove_first x (y ∷ ys) = cond (same x y) ys (y ∷ remove_first x ys)

  total-remove_first : (g : X → ℕ) (x : X) (ys : List X) → 0 < count_of same ys x → total g ys ≡ g x + total g (remove_first x ys)
  total-remove_first g x [] l = let bad : ⊥ = omega arith in absurd bad
  total-remove_first g x (y ∷ ys) l = here (same x y) refl l (total-remove_first g x ys)
    where
      here : (b : Bool) → same x y ≡ b → 0 < only b 1 + count_of same ys x → (0 < count_of same ys x → total g ys ≡ g x + total g (remove_first x ys)) → g y + total g ys ≡ g x + total g (cond b ys (y ∷ remove_first x ys))
      here true e l' ih = let same_weight : g x ≡ g y = ap g (decides.sound x y e) in omega arith
      here false e l' ih = let l'' : 0 < count_of same ys x = omega arith in let step = ih l'' in omega arith

  same_self : (x : X) (n : ℕ) → only (same x x) n ≡ n
  same_self x n = ap (λ b. only b n) (decides.reflexive x)

  no_counts : (ys : List X) → ((x : X) → 0 ≡ count_of same ys x) → (g : X → ℕ) → 0 ≡ total g ys
  no_counts [] h g = refl
  no_counts (y ∷ ys) h g = let here = h y in let one = same_self y 1 in let bad : ⊥ = omega arith in absurd bad

  sums_from_counts : (xs ys : List X) → ((x : X) → count_of same xs x ≡ count_of same ys x) → (g : X → ℕ) → total g xs ≡ total g ys
  sums_from_counts [] ys h g = no_counts ys h g
  sums_from_counts (x ∷ xs) ys h g =
      let found : 0 < count_of same ys x = omega (arith, h x, same_self x 1) in
      let rest : (z : X) → count_of same xs z ≡ count_of same (remove_first x ys) z = λ z. omega (arith, h z, total-remove_first (λ y. only (same z y) 1) x ys found) in
      omega (arith, sums_from_counts xs (remove_first x ys) rest g, total-remove_first g x ys found)

  pub same_sums : (xs ys : List X) → OneBag same xs ys → SameSums xs ys
  same_sums xs ys h = record { sums = sums_from_counts xs ys h.counts }

  same_false : (x y : X) → same x y ≡ false → same y x ≡ false
  same_false x y e = here (same y x) refl
    where
      here : (b : Bool) → same y x ≡ b → b ≡ false
      here false f = refl
      here true f = let one : same x y ≡ true = ap (λ z. same x z) (decides.sound y x f) ∙ decides.reflexive x in cc

  pub count-distinct : (xs : List X) (x : X) → count_of same (distinct same xs) x ≡ only (among same xs x) 1
  count-distinct [] x = refl
  count-distinct (y ∷ xs) x = ap (λ n. only (same x y) 1 + n) (total-filter (λ z. only (same x z) 1) (λ z. not (same y z)) (distinct same xs)) ∙ here (same x y) refl (count-distinct xs x)
    where
      none : same x y ≡ true → (z : X) → only (not (same y z)) (only (same x z) 1) ≡ 0
      none e z = ap (λ w. only (not (same y z)) (only (same w z) 1)) (decides.sound x y e) ∙ both (same y z)
        where
          both : (b : Bool) → only (not b) (only b 1) ≡ 0
          both true = refl
          both false = refl

      all : same x y ≡ false → (z : X) → only (not (same y z)) (only (same x z) 1) ≡ only (same x z) 1
      all e z = both (same x z) refl
        where
          both : (b : Bool) → same x z ≡ b → only (not (same y z)) (only b 1) ≡ only b 1
          both true f = ap (λ c. only (not c) 1) (ap (λ w. same y w) (sym (decides.sound x z f)) ∙ same_false x y e)
          both false f = none_left (same y z)
            where
              none_left : (c : Bool) → only (not c) 0 ≡ 0
              none_left true = refl
              none_left false = refl

      here : (b : Bool) → same x y ≡ b → count_of same (distinct same xs) x ≡ only (among same xs x) 1 → only b 1 + total (λ z. only (not (same y z)) (only (same x z) 1)) (distinct same xs) ≡ only (b || among same xs x) 1
      here true e ih = omega (arith, total_ext _ _ (distinct same xs) (none e), total-zero (distinct same xs))
      here false e ih = omega (arith, ih, total_ext _ _ (distinct same xs) (all e))

  -- lists with the same elements have the same distinct ones
  pub distinct_same : (xs ys : List X) → SameElements xs ys → SameSums (distinct same xs) (distinct same ys)
  distinct_same xs ys h = same_sums _ _ (record { counts = λ x. count-distinct xs x ∙ ap (λ b. only b 1) (h.tests (λ y. same x y)) ∙ sym (count-distinct ys x) })

  -- a list with no element twice is its distinct ones
  pub distinct_is : (xs : List X) → ((x : X) → AtMostOne (λ y. same x y) xs) → SameSums (distinct same xs) xs
  distinct_is xs h = same_sums _ _ (record { counts = λ x. count-distinct xs x ∙ sym (total_at_most_one (λ y. same x y) 1 xs (h x)) })

pub filter-map : {X Y : Type 0} (p : Y → Bool) (f : X → Y) (xs : List X) → filter p (map f xs) ≡ map f (filter (λ x. p (f x)) xs)
filter-map p f [] = refl
filter-map p f (x ∷ xs) = here (p (f x)) (filter-map p f xs)
  where
    here : (b : Bool) → filter p (map f xs) ≡ map f (filter (λ y. p (f y)) xs) → cond b (f x ∷ filter p (map f xs)) (filter p (map f xs)) ≡ map f (cond b (x ∷ filter (λ y. p (f y)) xs) (filter (λ y. p (f y)) xs))
    here true e = ap (λ l. f x ∷ l) e
    here false e = e

-- distinct elements of a list mapped by a function that keeps the test on elements with a property
pub distinct-map : {X Y : Type 0} (same : X → X → Bool) (same' : Y → Y → Bool) (f : X → Y) (P : X → Type 0) → ((x y : X) → P x → P y → same' (f x) (f y) ≡ same x y) →
    (xs : List X) → Each P xs → distinct same' (map f xs) ≡ map f (distinct same xs)
distinct-map same same' f P k [] h = refl
distinct-map same same' f P k (x ∷ xs) h = ap (λ l. f x ∷ l)
    (ap (filter (λ y. not (same' (f x) y))) (distinct-map same same' f P k xs h.1)
    ∙ filter-map (λ y. not (same' (f x) y)) f (distinct same xs)
    ∙ ap (map f) (filter_each _ _ (distinct same xs) (each_implies P _ (distinct same xs) (λ y py. ap not (k x y h.0 py)) (each_distinct P same xs h.1))))
