-- Conditions that are sorted between the operands of a join, and gathered again.
use Rattle.std.proofs.Common.{◌≡◌, ℕ, ◌+◌, ◌-◌, ◌≤◌, Bool, true, false, ◌&&◌, not, cond, List, [], ◌∷◌, ◌++◌, map, filter, refl, sym, ap, subst, ◌∙◌, arith, nat_lt}
use Rattle.std.specs.List.{list_all}
use Rattle.std.proofs.lemmas.List.{append-nil}
use Rattle.std.proofs.lemmas.List.Elements.{filter-append}
use Rattle.wt_bag.specs.Bags.{Each}
use Rattle.wt_bag.proofs.EachLaws.{each_for}
use Rattle.wt_place.specs.Placing.{Condition, test, member, moved, in_left, in_right}
use Rattle.wt_place.proofs.Regularity.{high_all, each_passing}

-- ---- lists

pub filter_all : {X : Type 0} (p : X → Bool) (xs : List X) → Each (λ x. p x ≡ true) xs → filter p xs ≡ xs
filter_all p [] h = refl
filter_all p (x ∷ xs) h = ap (λ b. cond b (x ∷ filter p xs) (filter p xs)) h.0 ∙ ap (λ l. x ∷ l) (filter_all p xs h.1)

pub filter_none : {X : Type 0} (p : X → Bool) (xs : List X) → Each (λ x. p x ≡ false) xs → filter p xs ≡ []
filter_none p [] h = refl
filter_none p (x ∷ xs) h = ap (λ b. cond b (x ∷ filter p xs) (filter p xs)) h.0 ∙ filter_none p xs h.1

-- each element that passed
pub each_passed : {X : Type 0} (p : X → Bool) (xs : List X) → Each (λ x. p x ≡ true) (filter p xs)
each_passed p xs = each_passing (λ x. p x ≡ true) p xs (each_for xs (λ x e. e))

pub two_first : {X : Type 0} (p : X → Bool) (xs ys : List X) → Each (λ x. p x ≡ true) xs → Each (λ x. p x ≡ false) ys → filter p (xs ++ ys) ≡ xs
two_first p xs ys h k = filter-append p xs ys ∙ (λ i. filter_all p xs h i ++ filter_none p ys k i) ∙ append-nil xs

pub two_second : {X : Type 0} (p : X → Bool) (xs ys : List X) → Each (λ x. p x ≡ false) xs → Each (λ x. p x ≡ true) ys → filter p (xs ++ ys) ≡ ys
two_second p xs ys h k = filter-append p xs ys ∙ (λ i. filter_none p xs h i ++ filter_all p ys k i)

pub three_first : {X : Type 0} (p : X → Bool) (xs ys zs : List X) → Each (λ x. p x ≡ true) xs → Each (λ x. p x ≡ false) ys → Each (λ x. p x ≡ false) zs → filter p ((xs ++ ys) ++ zs) ≡ xs
three_first p xs ys zs h k m = filter-append p (xs ++ ys) zs ∙ (λ i. two_first p xs ys h k i ++ filter_none p zs m i) ∙ append-nil xs

pub three_second : {X : Type 0} (p : X → Bool) (xs ys zs : List X) → Each (λ x. p x ≡ false) xs → Each (λ x. p x ≡ true) ys → Each (λ x. p x ≡ false) zs → filter p ((xs ++ ys) ++ zs) ≡ ys
three_second p xs ys zs h k m = filter-append p (xs ++ ys) zs ∙ (λ i. two_second p xs ys h k i ++ filter_none p zs m i) ∙ append-nil ys

pub three_third : {X : Type 0} (p : X → Bool) (xs ys zs : List X) → Each (λ x. p x ≡ false) xs → Each (λ x. p x ≡ false) ys → Each (λ x. p x ≡ true) zs → filter p ((xs ++ ys) ++ zs) ≡ zs
three_third p xs ys zs h k m = filter-append p (xs ++ ys) zs ∙ (λ i. (filter-append p xs ys ∙ (λ j. filter_none p xs h j ++ filter_none p ys k j)) i ++ filter_all p zs m i)

-- ---- the tests of a join exclude one another

pub left_not_right : (s t : Bool) → s ≡ true → (not s && t) ≡ false
left_not_right s t e = ap (λ b. not b && t) e

pub turned : (s : Bool) → not s ≡ true → s ≡ false
turned true e = sym e
turned false e = refl

pub right_not_left : (s t : Bool) → (not s && t) ≡ true → s ≡ false
right_not_left true t e = sym e
right_not_left false t e = refl

pub right_not_both : (s t : Bool) → (not s && t) ≡ true → (not s && not t) ≡ false
right_not_both true t e = refl
right_not_both false true e = refl
right_not_both false false e = sym e

pub both_not_right : (s t : Bool) → (not s && not t) ≡ true → (not s && t) ≡ false
both_not_right true t e = refl
both_not_right false true e = sym e
both_not_right false false e = refl

-- ---- columns that are moved and moved back

back_down : (n : ℕ) (cols : List ℕ) → map (λ k. k - n) (map (λ k. n + k) cols) ≡ cols
back_down n [] = refl
back_down n (k ∷ cols) = let e : (n + k) - n ≡ k = omega arith in λ i. e i ∷ back_down n cols i

back_up : (n : ℕ) (cols : List ℕ) → Each (λ k. n ≤ k) cols → map (λ k. n + k) (map (λ k. k - n) cols) ≡ cols
back_up n [] h = refl
back_up n (k ∷ cols) h = let e : n + (k - n) ≡ k = omega (arith, h.0) in λ i. e i ∷ back_up n cols h.1 i

pub moved_down : (n : ℕ) (cs : List Condition) → map (moved (λ k. k - n)) (map (moved (λ k. n + k)) cs) ≡ cs
moved_down n [] = refl
moved_down n (test q cols ∷ cs) = λ i. test q (back_down n cols i) ∷ moved_down n cs i
moved_down n (member cols r ∷ cs) = λ i. member (back_down n cols i) r ∷ moved_down n cs i

false_not_true : false ≡ true → ⊥
false_not_true e = subst (λ b. IsFalse b) e tt
  where
    IsFalse : Bool → Type 0
    IsFalse true = ⊥
    IsFalse false = Unit {0}

second_true : (b c : Bool) → (not b && c) ≡ true → c ≡ true
second_true true c e = absurd (false_not_true e)
second_true false c e = e

pub moved_up : (n : ℕ) (c : Condition) → in_right n c ≡ true → moved (λ k. n + k) (moved (λ k. k - n) c) ≡ c
moved_up n (test q cols) e = ap (test q) (back_up n cols (high_all n cols (second_true (in_left n (test q cols)) (list_all (λ k. not (nat_lt k n)) cols) e)))
moved_up n (member cols r) e = ap (λ l. member l r) (back_up n cols (high_all n cols (second_true (in_left n (member cols r)) (list_all (λ k. not (nat_lt k n)) cols) e)))
