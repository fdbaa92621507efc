-- Tests in a row.
use Rattle.std.proofs.Common.{◌≡◌, ◌<◌, ◌≤◌, ℕ, nat_eq, nat_lt, Bool, true, false, not, List, [], ◌∷◌, Option, Some, None, refl, arith}
use Rattle.std.specs.Prelude.{◌&&◌, nat_le}
use Rattle.std.specs.List.{list_all}
use Rattle.std.proofs.lemmas.Bool.Decides.{nat_tests}
use Rattle.wt_bag.specs.Bags.{Each}
use Rattle.wt_regularity.specs.Widths.{if_so, and_then}

pub both : (b c : Bool) → (b && c) ≡ true → (b ≡ true) × (c ≡ true)
both true c e = (refl, e)
both false c e = cc

pub make : (b c : Bool) → b ≡ true → c ≡ true → (b && c) ≡ true
make true c e h = h
make false c e h = cc

pub is_not : (b : Bool) → not b ≡ true → b ≡ false
is_not true e = cc
is_not false e = refl

pub lt_of : (m n : ℕ) → nat_lt m n ≡ true → m < n
lt_of m n e = grind (arith, nat_tests)

pub lt_test : (m n : ℕ) → m < n → nat_lt m n ≡ true
lt_test m n h = grind (arith, nat_tests)

pub le_of : (m n : ℕ) → nat_le m n ≡ true → m ≤ n
le_of m n e = grind (arith, nat_tests)

pub le_test : (m n : ℕ) → m ≤ n → nat_le m n ≡ true
le_test m n h = grind (arith, nat_tests)

pub eq_of : (m n : ℕ) → nat_eq m n ≡ true → m ≡ n
eq_of m n e = grind (arith, nat_tests)

pub eq_test : (m n : ℕ) → m ≡ n → nat_eq m n ≡ true
eq_test m n h = grind (arith, nat_tests)

-- what a test over a list says of each element
pub each_of : {X : Type 0} (p : X → Bool) (P : X → Type 0) → ((x : X) → p x ≡ true → P x) → (xs : List X) → list_all p xs ≡ true → Each P xs
each_of p P h [] e = tt
each_of p P h (x ∷ xs) e = let parts = both (p x) (list_all p xs) e in (h x parts.0, each_of p P h xs parts.1)

pub each_test : {X : Type 0} (p : X → Bool) (P : X → Type 0) → ((x : X) → P x → p x ≡ true) → (xs : List X) → Each P xs → list_all p xs ≡ true
each_test p P h [] e = refl
each_test p P h (x ∷ xs) e = make (p x) (list_all p xs) (h x e.0) (each_test p P h xs e.1)

-- a number that a test lets through
pub if_so_of : (b : Bool) (m n : ℕ) → if_so b m ≡ Some n → (b ≡ true) × (m ≡ n)
if_so_of true m n e = (refl, cc)
if_so_of false m n e = cc

pub if_so_test : (b : Bool) (m : ℕ) → b ≡ true → if_so b m ≡ Some m
if_so_test true m e = refl
if_so_test false m e = cc

-- what came before
pub then_of : (o : Option ℕ) (f : ℕ → Option ℕ) (n : ℕ) → and_then o f ≡ Some n → (m : ℕ) × (o ≡ Some m) × (f m ≡ Some n)
then_of (Some m) f n e = (m, refl, e)
then_of None f n e = cc
