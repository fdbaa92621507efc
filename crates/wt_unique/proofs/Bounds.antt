-- Columns are numbers of 32 bits, so a width that stands at the greatest number of 64 bits is as good as the true one.
use Rattle.std.proofs.Common.{◌≡◌, ℕ, zero, suc, ◌+◌, ◌-◌, ◌^◌, ◌<◌, ◌≤◌, nat_eq, nat_lt, min, Bool, true, false, List, [], ◌∷◌, get_or, refl, sym, ap, ◌∙◌, arith}
use Rattle.std.specs.Prelude.{◌&&◌, ◌||◌}
use Rattle.std.proofs.lemmas.Bool.{ltb-true, ltb-false}
use Rattle.std.proofs.lemmas.Bool.Decides.{nat_tests}
use Rattle.wt_bag.specs.Bags.{Each}
use Rattle.wt_plan_widths.specs.Widths.{IsWidth}
use Rattle.wt_known.specs.Sets.{is_in, is_whole}

abbrev pub IsSmall : List ℕ → Type 0
IsSmall set = (k : ℕ) → get_or set k 0 < 2 ^ 32

each_small : (set : List ℕ) → IsSmall set → Each (λ c. c < 2 ^ 32) set
each_small [] h = tt
each_small (c ∷ set) h = (h 0, each_small set (λ k. h (suc k)))

far_one : (r d : ℕ) → 2 ^ 32 ≤ r → d < 2 ^ 32 → nat_eq r d ≡ false
far_one r d h k = grind (arith, nat_tests)

far : (r : ℕ) (set : List ℕ) → 2 ^ 32 ≤ r → Each (λ c. c < 2 ^ 32) set → is_in r set ≡ false
far r [] h k = refl
far r (d ∷ set) h k = ap (λ b. b || is_in r set) (far_one r d h k.0) ∙ far r set h k.1

whole_far : (w : ℕ) (set : List ℕ) → 2 ^ 32 < w → Each (λ c. c < 2 ^ 32) set → is_whole w set ≡ false
whole_far zero set h k = absurd (let bad : ⊥ = omega (arith, h) in bad)
whole_far (suc w) set h k = ap (λ b. b && is_whole w set) (far w set (omega (arith, h)) k)

pub in_right : (set : List ℕ) (y n w r : ℕ) → IsSmall set → IsWidth n w → r ≡ min (y + n) (2 ^ 64 - 1) → is_in r set ≡ is_in (y + w) set
in_right set y n w r small wide is = by (nat_lt (y + w) (2 ^ 32)) refl
  where
    by : (b : Bool) → nat_lt (y + w) (2 ^ 32) ≡ b → is_in r set ≡ is_in (y + w) set
    by true e =
        let low : y + w < 2 ^ 32 = ltb-true (y + w) (2 ^ 32) e in
        let same : r ≡ y + w = omega (arith, wide, is, low) in
        ap (λ z. is_in z set) same
    by false e =
        let high : 2 ^ 32 ≤ y + w = ltb-false (y + w) (2 ^ 32) e in
        let more : 2 ^ 32 ≤ r = omega (arith, wide, is, high) in
        far r set more (each_small set small) ∙ sym (far (y + w) set high (each_small set small))

pub whole_width : (set : List ℕ) (n w : ℕ) → IsSmall set → IsWidth n w → is_whole n set ≡ is_whole w set
whole_width set n w small wide = by (nat_lt w (2 ^ 64)) refl
  where
    by : (b : Bool) → nat_lt w (2 ^ 64) ≡ b → is_whole n set ≡ is_whole w set
    by true e =
        let low : w < 2 ^ 64 = ltb-true w (2 ^ 64) e in
        let same : n ≡ w = omega (arith, wide, low) in
        ap (λ z. is_whole z set) same
    by false e =
        let high : 2 ^ 64 ≤ w = ltb-false w (2 ^ 64) e in
        let more : 2 ^ 32 < n = omega (arith, wide, high) in
        let past : 2 ^ 32 < w = omega (arith, high) in
        whole_far n set more (each_small set small) ∙ sym (whole_far w set past (each_small set small))
