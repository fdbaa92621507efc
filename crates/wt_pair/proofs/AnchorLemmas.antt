-- Anchorings by number.
use Rattle.std.proofs.Common.{◌≡◌, ℕ, zero, suc, ◌+◌, ◌-◌, ◌*◌, ◌/◌, ◌%◌, ◌^◌, ◌<◌, ◌≤◌, List, [], ◌∷◌, ◌++◌, map, length, Some, refl, sym, ap, ◌∙◌, arith, append_assoc, add-zero, zero-add, add-suc, suc-add, pow-suc, mul_comm, le_trans}
use Rattle.std.specs.Prelude.{slice_get}
use Rattle.std.proofs.Math.Nat.{pow-le-pow_left, pow-le-pow_right, one-le-pow, pow-zero}
use Rattle.std.proofs.lemmas.Nat.{div-add-mod', div_below, mod_below}
use Rattle.std.proofs.lemmas.List.{length-map}
use Rattle.std.proofs.lemmas.Option.{slice_get-map}
use Rattle.wt_template.specs.Order.{numbers_from}
use Rattle.wt_template.proofs.OrderLemmas.{get-flat_map, length-flat_map_even}
use Rattle.wt_pair.specs.Candidates.{anchorings}
use Rattle.wt_pair.specs.Walk.{nth_anchoring}

-- the powers that count anchorings are small
pub small_power : (r n : ℕ) → r ≤ 5 → n ≤ 8 → r ^ n ≤ 390625
small_power r n h g = le_trans (pow-le-pow_left h n) (pow-le-pow_right {n = 5} (omega arith) g)

pub length-numbers : (i n : ℕ) → length (numbers_from i n) ≡ n
length-numbers i zero = refl
length-numbers i (suc n) = ap suc (length-numbers (suc i) n)

pub get-numbers : (i n k : ℕ) → k < n → slice_get (numbers_from i n) k ≡ Some (i + k)
get-numbers i zero k h = absurd (omega arith)
get-numbers i (suc n) zero h = rw add-zero refl
get-numbers i (suc n) (suc k) h = get-numbers (suc i) n k (omega arith) ∙ rw (suc-add, add-suc) refl

pub length-anchorings : (r n : ℕ) → length (anchorings r n) ≡ r ^ n
length-anchorings r zero = sym (pow-zero r)
length-anchorings r (suc n) =
    length-flat_map_even (λ leaf. map (λ others. leaf ∷ others) (anchorings r n)) (r ^ n)
    (λ leaf. length-map (anchorings r n) (λ others. leaf ∷ others) ∙ length-anchorings r n) (numbers_from 0 r)
    ∙ rw (length-numbers 0 r, pow-suc) (mul_comm r (r ^ n))

positive : (r n k : ℕ) → k < r ^ suc n → 0 < r
positive zero n k h = absurd (omega (arith, rw pow-suc at h))
positive (suc r) n k h = omega arith

-- the first digit, and what is left of a number
pub digit : (r n k : ℕ) → k < r ^ suc n → (0 < r ^ n) × (k / r ^ n < r) × (k % r ^ n < r ^ n)
digit r n k h =
    let some : 0 < r ^ n = one-le-pow n r (positive r n k h) in
    let within : k < r * r ^ n = rw (pow-suc, mul_comm) at h in
    (some, div_below k (r ^ n) r some within, mod_below k (r ^ n) some)

pub get-anchorings : (r n k : ℕ) → k < r ^ n → slice_get (anchorings r n) k ≡ Some (nth_anchoring r n k)
get-anchorings r zero k h = let one = pow-zero r in let first : k ≡ 0 = omega (arith, h, one) in rw first refl
get-anchorings r (suc n) k h =
    let parts = digit r n k h in
    let rest = get-anchorings r n (k % r ^ n) parts.2 in
    let here : slice_get (map (λ others. (k / r ^ n) ∷ others) (anchorings r n)) (k % r ^ n) ≡ Some (k / r ^ n ∷ nth_anchoring r n (k % r ^ n)) =
    slice_get-map (λ others. (k / r ^ n) ∷ others) (anchorings r n) (k % r ^ n) ∙ rw rest refl in
    let found : slice_get (anchorings r (suc n)) (k / r ^ n * r ^ n + k % r ^ n) ≡ Some (nth_anchoring r (suc n) k) =
    get-flat_map (λ leaf. map (λ others. leaf ∷ others) (anchorings r n)) (r ^ n)
    (λ leaf. length-map (anchorings r n) (λ others. leaf ∷ others) ∙ length-anchorings r n) (numbers_from 0 r)
    (k / r ^ n) (k % r ^ n) (k / r ^ n) _ (get-numbers 0 r (k / r ^ n) parts.1 ∙ rw zero-add refl) here in
    rw div-add-mod' at found

-- the same where there is a list
pub digit_of : (r lists block k : ℕ) → (lists ≡ 0 → ⊥) → block ≡ r ^ (lists - 1) → k < r ^ lists → (0 < block) × (k / block < r) × (k % block < block)
digit_of r lists block k some is h =
    let next : lists ≡ suc (lists - 1) = omega arith in
    rw is (digit r (lists - 1) k (rw next at h))

pub nth_anchoring-step : (r lists block k : ℕ) (old pushed new : List ℕ) → (lists ≡ 0 → ⊥) → block ≡ r ^ (lists - 1) → pushed ≡ old ++ (k / block) ∷ [] →
    new ≡ pushed ++ nth_anchoring r (lists - 1) (k % block) → new ≡ old ++ nth_anchoring r lists k
nth_anchoring-step r lists block k old pushed new some is push more =
    let next : lists ≡ suc (lists - 1) = omega arith in
    let first : nth_anchoring r lists k ≡ k / block ∷ nth_anchoring r (lists - 1) (k % block) =
    rw is (ap (λ n. nth_anchoring r n k) next) in
    rw (more, push, first) (append_assoc old ((k / block) ∷ []) (nth_anchoring r (lists - 1) (k % block)))
