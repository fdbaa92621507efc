-- Masks of leaves, bit by bit.
use Rattle.std.proofs.Common.{◌≡◌, ℕ, ◌*◌, ◌%◌, ◌/◌, ◌^◌, ◌<◌, ◌≤◌, max, Bool, true, false, List, [], ◌∷◌, ◌++◌, inl, inr, refl, sym, ◌∙◌, arith}
use Rattle.std.specs.Prelude.{◌==◌, ◌&&◌, ◌||◌, if◌then◌else◌, slice_index, bit_and, bit_or}
use Rattle.std.proofs.lemmas.Grind.{common_steps}
use Rattle.std.proofs.lemmas.Bool.{cases_eq}
use Rattle.std.proofs.lemmas.Nat.{one_shl}
use Rattle.std.proofs.lemmas.Nat.Bits.{bit_at_or, bit_at-pow_same, bit_at-pow_other, bit_at_above, shr_and_one}
use Rattle.wt_symbol.specs.Lawful.{occurs, stands, visible_leaves}
use Rattle.wt_symbol.specs.Sides.{SideTree, proj, inner_join}
use Rattle.wt_symbol.specs.Heads.{IsMask}

pub occurs-append : (k : ℕ) (xs ys : List ℕ) → occurs k (xs ++ ys) ≡ occurs k xs || occurs k ys
occurs-append k [] ys = refl
occurs-append k (x ∷ xs) ys =
    let rest = occurs-append k xs ys in
    elim (x == k) as (λ b. b || occurs k (xs ++ ys) ≡ (b || occurs k xs) || occurs k ys) [ true ↦ refl | false ↦ rest ]

pub mask_one : (r : ℕ) → r < 8 → IsMask (1 * 2 ^ r % 2 ^ 8) (r ∷ [])
mask_one r h = record {
  bits = λ k.
      let shift = one_shl r 8 h in
      elim (cases_eq k r) [
        | inl e ↦ rw (shift, e) (bit_at-pow_same r ∙ grind (arith, common_steps))
        | inr ne ↦ rw shift (bit_at-pow_other r k ne ∙ grind (arith, common_steps))
      ];
}

pub mask_both : (m n : ℕ) (xs ys : List ℕ) → IsMask m xs → IsMask n ys → IsMask (bit_or m n) (xs ++ ys)
mask_both m n xs ys h g = record {
  bits = λ k.
      bit_at_or m n k ∙ rw (h.bits k, g.bits k, occurs-append k xs ys)
      (elim (occurs k xs) as (λ b. max (if b then 1 else 0) (if occurs k ys then 1 else 0) ≡ (if b || occurs k ys then 1 else 0)) [
        | true ↦ elim (occurs k ys) as (λ c. max 1 (if c then 1 else 0) ≡ 1) [ true ↦ refl | false ↦ refl ]
        | false ↦ elim (occurs k ys) as (λ c. max 0 (if c then 1 else 0) ≡ (if c then 1 else 0)) [ true ↦ refl | false ↦ refl ]
      ]);
}

-- the test of a bit
pub bit_test : (mask anchor : ℕ) (leaves : List ℕ) → IsMask mask leaves → (bit_and (mask / 2 ^ anchor) 1 == 1) ≡ occurs anchor leaves
bit_test mask anchor leaves h =
    rw (shr_and_one mask anchor, h.bits anchor)
    (elim (occurs anchor leaves) as (λ b. ((if b then 1 else 0) == 1) ≡ b) [ true ↦ refl | false ↦ refl ])

-- a mask of 8 bits has no leaf from 8 on
pub not_above : (mask anchor : ℕ) (leaves : List ℕ) → mask < 256 → 8 ≤ anchor → IsMask mask leaves → false ≡ occurs anchor leaves
not_above mask anchor leaves small above h =
    let none : 0 ≡ (if occurs anchor leaves then 1 else 0) = sym (bit_at_above mask 8 anchor small above) ∙ h.bits anchor in
    grind (arith, none)

pub both_true : (b c : Bool) → b ≡ true → true ≡ c → (b && c) ≡ true
both_true b c h g = rw (h, ← g) refl

pub all_true : (b c d e : Bool) → b ≡ true → c ≡ true → true ≡ d → true ≡ e → (b && c && d && e) ≡ true
all_true b c d e h g k l = rw (h, g, ← k, ← l) refl

-- what a mask's tests say of lists on their operands
module _ (A : List ℕ) (s t : SideTree) where
  pub proj_stands : (mask anchor a : ℕ) → anchor ≡ slice_index A a → (stands s A ≡ true) × IsMask mask (visible_leaves s A) →
      ((leaves : List ℕ) → IsMask mask leaves → true ≡ occurs anchor leaves) → anchor < 8 →
      (stands (proj a s) A ≡ true) × IsMask (1 * 2 ^ anchor % 256) (visible_leaves (proj a s) A)
  proj_stands mask anchor a is below seen small =
      (both_true _ _ below.0 (rw is at (seen _ below.1)), rw (← is) (mask_one anchor small))

  pub join_stands : (lefts rights left right a b : ℕ) → left ≡ slice_index A a → right ≡ slice_index A b →
      (stands s A ≡ true) × IsMask lefts (visible_leaves s A) → (stands t A ≡ true) × IsMask rights (visible_leaves t A) →
      ((leaves : List ℕ) → IsMask lefts leaves → true ≡ occurs left leaves) → ((leaves : List ℕ) → IsMask rights leaves → true ≡ occurs right leaves) →
      (stands (inner_join a b s t) A ≡ true) × IsMask (bit_or lefts rights) (visible_leaves (inner_join a b s t) A)
  join_stands lefts rights left right a b is_left is_right below_s below_t seen_s seen_t = (
    all_true _ _ _ _ below_s.0 below_t.0 (rw is_left at (seen_s _ below_s.1)) (rw is_right at (seen_t _ below_t.1)),
    mask_both lefts rights _ _ below_s.1 below_t.1,
  )
