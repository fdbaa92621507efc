-- Lists without two equal elements, made of others.
use Rattle.std.proofs.Common.{◌≡◌, ℕ, zero, suc, ◌≤◌, Bool, true, false, List, [], ◌∷◌, ◌++◌, map, refl, sym, ◌∙◌, subst, arith, inl, inr}
use Rattle.std.specs.Prelude.{◌≢◌, if◌then◌else◌, ◌==◌, filter, flat_map}
use Rattle.std.specs.Int.{bit_at}
use Rattle.wt_bag.specs.Bags.{Each}
use Rattle.wt_bag.specs.Choices.{Apart, Has}
use Rattle.wt_bag.proofs.EachLaws.{each_append, each_map, each_implies, each_filter}
use Rattle.wt_bag.proofs.HasLaws.{each_from_has, has_from_flat_map}
use Rattle.wt_bag.proofs.UniqueLists.{each_has}
use Rattle.wt_template.specs.Order.{numbers_from}
use Rattle.wt_template.specs.Shapes.{if_letter}

pub apart_append : {X : Type 0} (xs ys : List X) → Apart xs → Apart ys → ((x : X) → Has x xs → Has x ys → ⊥) → Apart (xs ++ ys)
apart_append [] ys a b none = b
apart_append (x ∷ xs) ys a b none = (
  each_append (λ y. x ≢ y) xs ys a.0 (each_from_has (λ y. x ≢ y) ys (λ y h e. none x (inl refl) (subst (λ z. Has z ys) (sym e) h))),
  apart_append xs ys a.1 b (λ y h k. none y (inr h) k),
)

pub apart_map : {X Y : Type 0} (f : X → Y) (xs : List X) → ((x y : X) → f x ≡ f y → x ≡ y) → Apart xs → Apart (map f xs)
apart_map f [] same a = tt
apart_map f (x ∷ xs) same a =
    (each_map (λ y. f x ≢ y) f xs (each_implies (λ y. x ≢ y) (λ y. f x ≢ f y) xs (λ y n e. n (same x y e)) a.0), apart_map f xs same a.1)

-- each list has no two equal elements, and its elements tell of what it is the list
pub apart_flat_map : {X Y : Type 0} (f : X → List Y) (key : Y → X) (xs : List X) → ((x : X) (y : Y) → Has y (f x) → key y ≡ x) → ((x : X) → Has x xs → Apart (f x))
    → Apart xs → Apart (flat_map f xs)
apart_flat_map f key [] tells each a = tt
apart_flat_map f key (x ∷ xs) tells each a =
    apart_append (f x) (flat_map f xs) (each x (inl refl)) (apart_flat_map f key xs tells (λ y h. each y (inr h)) a.1)
    (λ y h k. let (z, among, from) = has_from_flat_map y f xs k in each_has (λ w. x ≢ w) z xs a.0 among (sym (tells x y h) ∙ tells z y from))

pub apart_filter : {X : Type 0} (test : X → Bool) (xs : List X) → Apart xs → Apart (filter test xs)
apart_filter test [] a = tt
apart_filter test (x ∷ xs) a = by (test x) refl (apart_filter test xs a.1)
  where
    by : (t : Bool) → test x ≡ t → Apart (filter test xs) → Apart (filter test (x ∷ xs))
    by true e ih = rw e (each_filter (λ y. x ≢ y) test xs a.0, ih)
    by false e ih = rw e ih

pub has_of_filter : {X : Type 0} (test : X → Bool) (y : X) (xs : List X) → Has y (filter test xs) → Has y xs
has_of_filter test y [] h = absurd h
has_of_filter test y (x ∷ xs) h = by (test x) refl (has_of_filter test y xs) h
  where
    by : (t : Bool) → test x ≡ t → (Has y (filter test xs) → Has y xs) → Has y (filter test (x ∷ xs)) → Has y (x ∷ xs)
    by true e ih = rw e (λ h. elim h [ inl k ↦ inl k | inr k ↦ inr (ih k) ])
    by false e ih = rw e (λ h. inr (ih h))

-- ---- numbers

from_least : (i n : ℕ) → Each (λ m. i ≤ m) (numbers_from i n)
from_least i zero = tt
from_least i (suc n) = (omega arith, each_implies (λ m. suc i ≤ m) (λ m. i ≤ m) (numbers_from (suc i) n) (λ m h. omega (arith, h)) (from_least (suc i) n))

pub numbers_apart : (i n : ℕ) → Apart (numbers_from i n)
numbers_apart i zero = tt
numbers_apart i (suc n) = (
  each_implies (λ m. suc i ≤ m) (λ m. i ≢ m) (numbers_from (suc i) n) (λ m h e. omega (arith, h, e)) (from_least (suc i) n),
  numbers_apart (suc i) n,
)

-- ---- a choice that is there where a letter is

pub has_letter : {X : Type 0} (ops letter : ℕ) (x : X) (xs : List X) → Has x (if_letter ops letter xs) → Has x xs
has_letter ops letter x xs = by (bit_at ops letter == 1)
  where
    by : (t : Bool) → Has x (if t then xs else []) → Has x xs
    by true h = h
    by false h = absurd h

pub apart_letter : {X Y : Type 0} (f : X → Y) (ops letter : ℕ) (xs : List X) → Apart (map f xs) → Apart (map f (if_letter ops letter xs))
apart_letter f ops letter xs a = by (bit_at ops letter == 1)
  where
    by : (t : Bool) → Apart (map f (if t then xs else []))
    by true = a
    by false = tt
