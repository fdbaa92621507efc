-- Sets with one atom more or less, and how many atoms a set lacks.
use Rattle.std.proofs.Common.{ℕ, zero, suc, ◌≡◌, ◌≢◌, ◌<◌, ◌≤◌, ◌+◌, ◌-◌, ◌*◌, ◌%◌, ◌^◌, ◌↔◌, ◌⊎◌, inl, inr, bit_and, bit_or, refl, sym, ap, ◌∙◌, subst, arith}
use Rattle.std.specs.Int.{bit_at, w64}
use Rattle.std.proofs.lemmas.Bool.{cases_eq, cases_lt, cases_order}
use Rattle.std.proofs.lemmas.Nat.{or_lt, one_shl, pow_below}
use Rattle.std.proofs.lemmas.Nat.Bits.{bit_at-lt, bit_at_set_same, bit_at_set_other, same_from_bits}
use Rattle.wt_constraint.specs.declared.set.AtomSet.{AtomSet}
use Rattle.wt_constraint.specs.Sets.{HasAtom}
use Rattle.wt_constraint.proofs.SetLemmas.{without_members, without_number, not_from_64}
use Rattle.wt_form.specs.Relaxed.{LeavesOut}
use Rattle.wt_cores.specs.Cores.{Within, missing}
use Rattle.wt_cores.proofs.Orders.{set_is}

pub has_or_not : (s : AtomSet) (i : ℕ) → HasAtom s i ⊎ (HasAtom s i → ⊥)
has_or_not s i = elim (cases_eq (bit_at s.0 i) 1) [ inl e ↦ inl (record { bit = e }) | inr ne ↦ inr (λ h. ne h.bit) ]

no_bit : (s : AtomSet) (i : ℕ) → (HasAtom s i → ⊥) → bit_at s.0 i ≡ 0
no_bit s i none = elim (cases_eq (bit_at s.0 i) 1) [
  | inl e ↦ absurd (none (record { bit = e }))
  | inr ne ↦ let bound = bit_at-lt s.0 i in omega (arith, bound, ne)
]

-- two sets that have the same atoms at a place have the same bit there
pub bits_same : (s t : AtomSet) (i : ℕ) → (HasAtom s i → HasAtom t i) → (HasAtom t i → HasAtom s i) → bit_at s.0 i ≡ bit_at t.0 i
bits_same s t i to from = elim (has_or_not s i) [
  | inl h ↦ h.bit ∙ sym (to h).bit
  | inr n ↦ no_bit s i n ∙ sym (no_bit t i (λ h. n (from h)))
]

-- sets that have the same atoms are one
pub same_atoms : (s t : AtomSet) → Within s t → Within t s → s ≡ t
same_atoms s t to from = set_is s t (same_from_bits s.0 t.0 (λ i. bits_same s t i (to i) (from i)))

pub within_trans : (s t u : AtomSet) → Within s t → Within t u → Within s u
within_trans s t u a b i h = b i (a i h)

-- an atom of a set of 64 bits has a number below 64
pub below_64 : (s : AtomSet) (i : ℕ) → s.0 < 2 ^ 64 → HasAtom s i → i < 64
below_64 s i small has = elim (cases_lt i 64) [ inl lt ↦ lt | inr ge ↦ absurd (not_from_64 s i small ge has) ]

-- the number that is left of a sum
left_of : (x b n t s : ℕ) → b ≡ 1 → x + b * n ≡ t → s + n ≡ t → x ≡ s
left_of x b n t s e sum other = let one : x + 1 * n ≡ t = subst (λ c. x + c * n ≡ t) e sum in omega (arith, one, other)

-- which atoms a set has that leaves one out
pub left_out_members : (t : AtomSet) (i : ℕ) (s : AtomSet) → t.0 < 2 ^ 64 → LeavesOut t i s → (j : ℕ) → HasAtom s j ↔ (HasAtom t j × (j ≢ i))
left_out_members t i s small leaves j =
    let below : i < 64 = below_64 t i small leaves.there in
    let same : bit_and t.0 (18446744073709551615 - 1 * 2 ^ i % 18446744073709551616) ≡ s.0 = left_of _ (bit_at t.0 i) (2 ^ i) t.0 s.0 leaves.there.bit (without_number t.0 i below small) leaves.number in
    subst (λ n. HasAtom (record { 0 = n }) j ↔ (HasAtom t j × (j ≢ i))) same (without_members t.0 i below small j)

pub left_out_within : (t : AtomSet) (i : ℕ) (s : AtomSet) → t.0 < 2 ^ 64 → LeavesOut t i s → Within s t
left_out_within t i s small leaves j h = ((left_out_members t i s small leaves j).0 h).0

pub left_out_less : (t : AtomSet) (i : ℕ) (s : AtomSet) → LeavesOut t i s → s.0 ≤ t.0
left_out_less t i s leaves = let n = leaves.number in omega (arith, n)

pub left_out_small : (t : AtomSet) (i : ℕ) (s : AtomSet) → t.0 < 2 ^ 64 → LeavesOut t i s → s.0 < 2 ^ 64
left_out_small t i s small leaves = let le = left_out_less t i s leaves in omega (arith, le, small)

-- the set without an atom that it has
pub without_atom : (t : AtomSet) (i : ℕ) → t.0 < 2 ^ 64 → HasAtom t i → (s : AtomSet) × LeavesOut t i s
without_atom t i small has =
    let below : i < 64 = below_64 t i small has in (
      record { 0 = bit_and t.0 (18446744073709551615 - 1 * 2 ^ i % 18446744073709551616) },
      record { there = has; number = one _ (bit_at t.0 i) (2 ^ i) t.0 has.bit (without_number t.0 i below small) },
    )
  where
    one : (x b n t' : ℕ) → b ≡ 1 → x + b * n ≡ t' → x + n ≡ t'
    one x b n t' e sum = let o : x + 1 * n ≡ t' = subst (λ c. x + c * n ≡ t') e sum in omega (arith, o)

-- the set with an atom that it has not
pub with_atom : (s : AtomSet) (i : ℕ) → i < 64 → s.0 < 2 ^ 64 → (HasAtom s i → ⊥) → (t : AtomSet) × (t.0 < 2 ^ 64) × LeavesOut t i s × ((j : ℕ) → HasAtom t j → HasAtom s j ⊎ (j ≡ i))
with_atom s i below small none =
    let pow : 1 * 2 ^ i % 2 ^ 64 ≡ 2 ^ i = one_shl i 64 below in
    let bound : n < 2 ^ 64 = or_lt 64 s.0 (1 * 2 ^ i % 2 ^ 64) small (subst (λ m. m < 2 ^ 64) (sym pow) (pow_below i 64 below)) in
    let there : HasAtom t i = record { bit = bit_at_set_same w64 s.0 i below } in
    let w = without_atom t i bound there in
    let same : w.0 ≡ s = same_atoms w.0 s (into w.0 bound w.1) (from w.0 bound w.1) in
    (t, bound, subst (LeavesOut t i) same w.1, members)
  where
    n : ℕ
    n = bit_or s.0 (1 * 2 ^ i % 2 ^ 64)

    t : AtomSet
    t = record { 0 = n }

    other : (j : ℕ) → j ≢ i → bit_at n j ≡ bit_at s.0 j
    other j ne = bit_at_set_other w64 s.0 i below j ne

    members : (j : ℕ) → HasAtom t j → HasAtom s j ⊎ (j ≡ i)
    members j h = elim (cases_eq j i) [ inl e ↦ inr e | inr ne ↦ inl (record { bit = sym (other j ne) ∙ h.bit }) ]

    into : (u : AtomSet) → t.0 < 2 ^ 64 → LeavesOut t i u → Within u s
    into u bound leaves j h = let m = (left_out_members t i u bound leaves j).0 h in elim (members j m.0) [ inl k ↦ k | inr e ↦ absurd (m.1 e) ]

    from : (u : AtomSet) → t.0 < 2 ^ 64 → LeavesOut t i u → Within s u
    from u bound leaves j h = (left_out_members t i u bound leaves j).1 (elim (cases_eq j i) [
      | inl e ↦ absurd (none (subst (HasAtom s) e h))
      | inr ne ↦ (record { bit = other j ne ∙ h.bit }, ne)
    ])

-- a set lacks none of its own atoms
pub missing_self : (n : ℕ) (s : AtomSet) → missing n s s ≡ 0
unfolding missing
missing_self zero s = refl
missing_self (suc n) s = let ih = missing_self n s in omega (arith, ih)

-- a larger set lacks no more
pub missing_within : (n : ℕ) (t s u : AtomSet) → Within s u → missing n t u ≤ missing n t s
unfolding missing
missing_within zero t s u w = omega arith
missing_within (suc n) t s u w = let ih = missing_within n t s u w in elim (has_or_not s n) [
  | inl h ↦ let a = h.bit in let b = (w n h).bit in omega (arith, ih, a, b)
  | inr none ↦ let a = no_bit s n none in omega (arith, ih, a)
]

-- an atom that is lacked
pub some_missing : (n : ℕ) (t s : AtomSet) → 0 < missing n t s → (i : ℕ) × (i < n) × HasAtom t i × (HasAtom s i → ⊥)
unfolding missing
some_missing zero t s l = let bad : ⊥ = omega (arith, l) in absurd bad
some_missing (suc n) t s l = elim (cases_lt 0 (missing n t s)) [
  | inl more ↦ let r = some_missing n t s more in (r.0, (let b = r.1 in omega (arith, b)), r.2, r.3)
  | inr none ↦ last none
]
  where
    last : missing n t s ≤ 0 → (i : ℕ) × (i < suc n) × HasAtom t i × (HasAtom s i → ⊥)
    last none = elim (has_or_not t n) [
      | inl h ↦ (n, omega arith, h, λ has. let a = h.bit in let b = has.bit in omega (arith, l, none, a, b))
      | inr gone ↦ let a = no_bit t n gone in let bad : ⊥ = omega (arith, l, none, a) in absurd bad
    ]

-- where none is lacked, each is there
pub none_missing : (n : ℕ) (t s : AtomSet) → missing n t s ≡ 0 → (i : ℕ) → i < n → HasAtom t i → HasAtom s i
unfolding missing
none_missing zero t s e i l h = let bad : ⊥ = omega (arith, l) in absurd bad
none_missing (suc n) t s e i l h = elim (cases_order i n) [
  | inl same ↦ elim (has_or_not s i) [
    | inl has ↦ has
    | inr none ↦
        let a : bit_at t.0 n ≡ 1 = ap (bit_at t.0) (sym same) ∙ h.bit in
        let b : bit_at s.0 n ≡ 0 = ap (bit_at s.0) (sym same) ∙ no_bit s i none in
        let bad : ⊥ = omega (arith, e, a, b) in absurd bad
  ]
  | inr (inl lt) ↦ none_missing n t s (omega (arith, e)) i lt h
  | inr (inr gt) ↦ let bad : ⊥ = omega (arith, l, gt) in absurd bad
]

-- a set without one atom lacks one more
module _ (t u : AtomSet) (i : ℕ) (s : AtomSet) (small : u.0 < 2 ^ 64) (leaves : LeavesOut u i s) (within : Within u t) where
  same_bit : (j : ℕ) → j ≢ i → bit_at s.0 j ≡ bit_at u.0 j
  same_bit j ne = bits_same s u j (λ h. ((left_out_members u i s small leaves j).0 h).0) (λ h. (left_out_members u i s small leaves j).1 (h, ne))

  missing_before : (n : ℕ) → n ≤ i → missing n t s ≡ missing n t u
  unfolding missing
  missing_before zero l = refl
  missing_before (suc n) l =
      let ih = missing_before n (omega (arith, l)) in
      let same : bit_at s.0 n ≡ bit_at u.0 n = same_bit n (λ e. let bad : ⊥ = omega (arith, l, e) in bad) in
      omega (arith, ih, same)

  pub missing_more : (n : ℕ) → i < n → missing n t s ≡ missing n t u + 1
  unfolding missing
  missing_more zero l = let bad : ⊥ = omega (arith, l) in absurd bad
  missing_more (suc n) l = elim (cases_order i n) [
    | inl e ↦
        let before = missing_before n (omega (arith, e)) in
        let a : bit_at u.0 n ≡ 1 = ap (bit_at u.0) (sym e) ∙ leaves.there.bit in
        let b : bit_at t.0 n ≡ 1 = ap (bit_at t.0) (sym e) ∙ (within i leaves.there).bit in
        let c : bit_at s.0 n ≡ 0 = ap (bit_at s.0) (sym e) ∙ no_bit s i (λ h. ((left_out_members u i s small leaves i).0 h).1 refl) in
        omega (arith, before, a, b, c)
    | inr (inl lt) ↦
        let ih = missing_more n lt in
        let same : bit_at s.0 n ≡ bit_at u.0 n = same_bit n (λ e. let bad : ⊥ = omega (arith, lt, e) in bad) in
        omega (arith, ih, same)
    | inr (inr gt) ↦ let bad : ⊥ = omega (arith, l, gt) in absurd bad
  ]

-- an atom more that is looked at
pub missing_next : (n : ℕ) (t s : AtomSet) → missing (n + 1) t s ≡ missing n t s + (bit_at t.0 n - bit_at s.0 n)
unfolding missing
missing_next n t s = ap (λ m. missing m t s) add_one
  where
    add_one : n + 1 ≡ suc n
    add_one = omega arith

pub missing_there : (n : ℕ) (t s : AtomSet) → HasAtom t n → (HasAtom s n → ⊥) → missing (n + 1) t s ≡ missing n t s + 1
missing_there n t s h none = let a = h.bit in let b = no_bit s n none in let e = missing_next n t s in omega (arith, a, b, e)

pub missing_none : (n : ℕ) (t s : AtomSet) → ((HasAtom t n → ⊥) ⊎ HasAtom s n) → missing (n + 1) t s ≡ missing n t s
missing_none n t s (inl none) = let a = no_bit t n none in let e = missing_next n t s in omega (arith, a, e)
missing_none n t s (inr h) = let a = h.bit in let b = bit_at-lt t.0 n in let e = missing_next n t s in omega (arith, a, b, e)

pub missing_first : (t s : AtomSet) → missing 0 t s ≡ 0
unfolding missing
missing_first t s = refl
