-- The numbers below a number as places.
use Rattle.std.proofs.Common.{◌≡◌, ℕ, zero, suc, ◌<◌, List, [], ◌∷◌, map, length, refl, ap, ◌∙◌, arith}
use Rattle.wt_bag.specs.Bags.{Each}
use Rattle.wt_bag.proofs.EachLaws.{each_implies, each_map}
use Rattle.wt_value.specs.declared.value.Value.{Value}
use Rattle.wt_value.specs.Values.{Tuple, value_at, pick}
use Rattle.wt_plan.specs.Regular.{upto}

pub length_map : {X Y : Type 0} (f : X → Y) (xs : List X) → length (map f xs) ≡ length xs
length_map f [] = refl
length_map f (x ∷ xs) = omega (arith, length_map f xs)

pub length_upto : (n : ℕ) → length (upto n) ≡ n
length_upto zero = refl
length_upto (suc n) = omega (arith, length_map suc (upto n), length_upto n)

pub upto_within : (n : ℕ) → Each (λ k. k < n) (upto n)
upto_within zero = tt
upto_within (suc n) = (omega arith, each_map (λ k. k < suc n) suc (upto n) (each_implies (λ k. k < n) (λ k. suc k < suc n) (upto n) (λ k l. omega (arith, l)) (upto_within n)))

-- places counted from one more
pub pick_suc : (v : Value) (row : Tuple) (cols : List ℕ) → map (value_at (v ∷ row)) (map suc cols) ≡ map (value_at row) cols
pick_suc v row [] = refl
pick_suc v row (c ∷ cols) = ap (λ l. value_at row c ∷ l) (pick_suc v row cols)

pub pick_upto : (row : Tuple) → pick (upto (length row)) row ≡ row
pick_upto [] = refl
pick_upto (v ∷ row) = ap (λ l. v ∷ l) (pick_suc v row (upto (length row)) ∙ pick_upto row)
