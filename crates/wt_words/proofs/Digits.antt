-- A number of so many digits is below that power of ten.
use Rattle.std.proofs.Common.{◌≡◌, ℕ, zero, suc, ◌+◌, ◌-◌, ◌*◌, ◌^◌, ◌<◌, ◌≤◌, Bool, true, false, List, [], ◌∷◌, length, take, drop, get_or, arith, pow-suc, refl, rules}
use Rattle.std.specs.Prelude.{nat_le, ◌&&◌}
use Rattle.std.specs.List.{list_all}
use Rattle.std.proofs.lemmas.Bool.Decides.{nat_tests}
use Rattle.std.proofs.lemmas.List.{take_all}
use Rattle.std.proofs.lemmas.Nat.{mul-le}
use Rattle.wt_words.specs.Settings.{is_digit}

first_digit : (b : ℕ) (bs : List ℕ) → list_all is_digit (b ∷ bs) ≡ true → b ≤ 57
first_digit b bs h = let both : (nat_le b 57) ≡ true = grind (arith, h) in grind (arith, nat_tests)

below : (a p v : ℕ) → a ≤ 9 → v < p → a * p + v < p * 10
below a p v h l = omega (arith, mul-le a p 9 p h (omega arith))

pub digits_below : (word : List ℕ) (a p v : ℕ) → list_all is_digit word ≡ true → 1 ≤ length word → a ≡ get_or word 0 0 - 48 →
    p ≡ 10 ^ length (take (length word - 1) (drop 1 word)) → v < 10 ^ length (take (length word - 1) (drop 1 word)) → a * p + v < 10 ^ length word
digits_below [] a p v digits some first power small = absurd (omega arith)
digits_below (b ∷ bs) a p v digits some first power small =
    let rest : take (length (b ∷ bs) - 1) bs ≡ bs = take_all (length (b ∷ bs) - 1) bs (omega arith) in
    let high : b ≤ 57 = first_digit b bs digits in
    let is : p ≡ 10 ^ length bs = rw rest at power in
    let less : v < 10 ^ length bs = rw rest at small in
    let bound = below a (10 ^ length bs) v (omega arith) less in
    rw (is, pow-suc) bound
