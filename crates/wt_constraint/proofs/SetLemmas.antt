-- Sets of atoms, bit by bit.
use Rattle.std.proofs.Common.{◌≡◌, ◌≢◌, ℕ, ◌+◌, ◌-◌, ◌*◌, ◌%◌, ◌^◌, ◌<◌, ◌≤◌, ◌↔◌, min, inl, inr, refl, sym, ap, ◌∙◌, arith}
use Rattle.std.specs.Prelude.{bit_and}
use Rattle.std.specs.Int.{bit_at, bit_not, w64}
use Rattle.std.proofs.lemmas.Bool.{cases_eq, cases_lt}
use Rattle.std.proofs.lemmas.Nat.{one_shl, and_le_l, and_comm, and-not, pow_below}
use Rattle.std.proofs.lemmas.Nat.Bits.{bit_at-lt, bit_at-zero, bit_at_and, bit_at_not, bit_at_above, bit_at_ones, bit_at_ones_above, bit_at_clear_same, bit_at_clear_other, and_pow, same_from_bits}
use Rattle.wt_constraint.specs.declared.set.AtomSet.{AtomSet}
use Rattle.wt_constraint.specs.Sets.{HasAtom}

-- the bits of a set without one
cleared : ℕ → ℕ → ℕ
cleared n k = bit_and n (bit_not w64 (1 * 2 ^ k % 2 ^ 64))

cleared_bit : (n k j : ℕ) → k < 64 → n < 2 ^ 64 → (bit_at (cleared n k) j ≡ 1) ↔ ((bit_at n j ≡ 1) × (j ≢ k))
unfolding cleared
cleared_bit n k j h small =
    elim (cases_eq j k) [
      | inl e ↦
          let none = bit_at_clear_same w64 n k h in
          (λ one. absurd (omega (arith, none, rw e at one)), λ both. absurd (both.1 e))
      | inr ne ↦
          elim (cases_lt j 64) [
            | inl lt ↦
                let other = bit_at_clear_other w64 n k h j lt ne in
                (λ one. (sym other ∙ one, ne), λ both. other ∙ both.0)
            | inr ge ↦
                let le = and_le_l n (bit_not w64 (1 * 2 ^ k % 2 ^ 64)) in
                let above = bit_at_above n 64 j small ge in
                let above' = bit_at_above (bit_and n (bit_not w64 (1 * 2 ^ k % 2 ^ 64))) 64 j (omega (arith, le)) ge in
                (λ one. absurd (omega (arith, above', one)), λ both. absurd (omega (arith, above, both.0)))
          ]
    ]

pub without_members : (n k : ℕ) → k < 64 → n < 2 ^ 64 → (j : ℕ) →
    HasAtom (record { 0 = bit_and n (18446744073709551615 - 1 * 2 ^ k % 18446744073709551616) }) j ↔ (HasAtom (record { 0 = n }) j × (j ≢ k))
unfolding cleared
without_members n k h small j =
    let bits = cleared_bit n k j h small in
    (λ has. let both = bits.0 has.bit in (record { bit = both.0 }, both.1), λ both. record { bit = bits.1 (both.0.bit, both.1) })

pub without_number : (n k : ℕ) → k < 64 → n < 2 ^ 64 →
    bit_and n (18446744073709551615 - 1 * 2 ^ k % 18446744073709551616) + bit_at n k * 2 ^ k ≡ n
without_number n k h small =
    let shift : 1 * 2 ^ k % 18446744073709551616 ≡ 2 ^ k = one_shl k 64 h in
    let below : 2 ^ k < 2 ^ 64 = pow_below k 64 h in
    let split = and-not 64 (2 ^ k) n below small in
    let bit = and_comm (2 ^ k) n ∙ and_pow n k in
    let turned = and_comm n (18446744073709551615 - 2 ^ k) in
    rw (shift, turned) (omega (arith, split, bit))

pub contains_all : (a b : ℕ) → a < 2 ^ 64 → b < 2 ^ 64 → bit_and b (18446744073709551615 - a) ≡ 0 → (i : ℕ) → bit_at b i ≡ 1 → bit_at a i ≡ 1
contains_all a b small_a small_b none i has =
    elim (cases_lt i 64) [
      | inl lt ↦
          let meet : 0 ≡ min (bit_at b i) (bit_at (bit_not w64 a) i) = sym (bit_at-zero i) ∙ ap (λ n. bit_at n i) (sym none) ∙ bit_at_and b (bit_not w64 a) i in
          let flipped = bit_at_not w64 a i small_a lt in
          let bound = bit_at-lt a i in
          omega (arith, meet, flipped, bound, has)
      | inr ge ↦ absurd (omega (arith, bit_at_above b 64 i small_b ge, has))
    ]

pub contains_none : (a b : ℕ) → a < 2 ^ 64 → b < 2 ^ 64 → ((i : ℕ) → bit_at b i ≡ 1 → bit_at a i ≡ 1) → bit_and b (18446744073709551615 - a) ≡ 0
contains_none a b small_a small_b within =
    same_from_bits (bit_and b (18446744073709551615 - a)) 0
    (λ i.
    elim (cases_lt i 64) [
      | inl lt ↦
          let meet = bit_at_and b (bit_not w64 a) i in
          let flipped = bit_at_not w64 a i small_a lt in
          elim (cases_eq (bit_at b i) 1) [
            | inl one ↦ let has = within i one in omega (arith, meet, flipped, has, bit_at-zero i)
            | inr other ↦ let bound = bit_at-lt b i in omega (arith, meet, bound, other, bit_at-zero i)
          ]
      | inr ge ↦ let above = bit_at_above b 64 i small_b ge in omega (arith, bit_at_and b (bit_not w64 a) i, above, bit_at-zero i)
    ])

pub ones_members : (n k : ℕ) → n ≡ 2 ^ k - 1 → (i : ℕ) → HasAtom (record { 0 = n }) i ↔ (i < k)
ones_members n k e i =
    elim (cases_lt i k) [
      | inl lt ↦ (λ has. lt, λ h. record { bit = rw e (bit_at_ones k i lt) })
      | inr ge ↦
          let none = bit_at_ones_above k i ge in
          (λ has. absurd (omega (arith, none, rw e at has.bit)), λ h. absurd (omega arith))
    ]

-- ones below a count of less than 64
pub ones_below : (len n : ℕ) → len ≡ n → len < 64 → 1 * 2 ^ len % 18446744073709551616 - 1 ≡ 2 ^ min n 64 - 1
ones_below len n e h =
    let shift : 1 * 2 ^ len % 18446744073709551616 ≡ 2 ^ len = one_shl len 64 h in
    let least : min n 64 ≡ len = omega arith in
    rw (shift, least) refl

pub all_ones : (len n : ℕ) → len ≡ n → 64 ≤ len → 18446744073709551615 ≡ 2 ^ min n 64 - 1
all_ones len n e h = let least : min n 64 ≡ 64 = omega arith in rw least refl

-- a set of 64 bits has no atom from 64 on
pub not_from_64 : (set : AtomSet) (k : ℕ) → set.0 < 2 ^ 64 → 64 ≤ k → HasAtom set k → ⊥
not_from_64 set k small above has = omega (arith, bit_at_above set.0 64 k small above, has.bit)
