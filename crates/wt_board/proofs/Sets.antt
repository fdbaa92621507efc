-- Sets of atoms: the test of lying in one another, and small facts on truth values and options.
use Rattle.std.proofs.Common.{◌≡◌, ℕ, ◌⊎◌, inl, inr, Bool, true, false, true≢false, refl, sym, ap, arith, eqb-true, eq-eqb}
use Rattle.std.specs.Prelude.{◌==◌, ◌&&◌, ◌||◌, bit_and, Option, Some, None}
use Rattle.std.specs.Int.{bit_at}
use Rattle.std.proofs.lemmas.Bool.{cases_eq}
use Rattle.std.proofs.lemmas.Nat.Bits.{bit_at_and, bit_at-lt, same_from_bits}
use Rattle.wt_constraint.specs.declared.set.AtomSet.{AtomSet}
use Rattle.wt_cores.specs.Cores.{Within}
use Rattle.wt_cores.proofs.Orders.{set_is}
use Rattle.wt_board.specs.Knowledge.{lies_in}

-- ---- truth values and options

pub or_false : (a b : Bool) → (a || b) ≡ false → (a ≡ false) × (b ≡ false)
or_false true b h = absurd (true≢false h)
or_false false b h = (refl, h)

pub or_true : (a b : Bool) → (a || b) ≡ true → (a ≡ true) ⊎ (b ≡ true)
or_true true b h = inl refl
or_true false b h = inr h

pub or_left : (a b : Bool) → a ≡ true → (a || b) ≡ true
or_left true b h = refl
or_left false b h = absurd (true≢false (sym h))

pub or_right : (a b : Bool) → b ≡ true → (a || b) ≡ true
or_right true b h = refl
or_right false b h = h

pub or_neither : (a b : Bool) → a ≡ false → b ≡ false → (a || b) ≡ false
or_neither true b h k = absurd (true≢false h)
or_neither false b h k = k

pub and_true : (a b : Bool) → (a && b) ≡ true → (a ≡ true) × (b ≡ true)
and_true true b h = (refl, h)
and_true false b h = absurd (true≢false (sym h))

pub and_both : (a b : Bool) → a ≡ true → b ≡ true → (a && b) ≡ true
and_both true b h k = k
and_both false b h k = absurd (true≢false (sym h))

get_some : {X : Type 0} → X → Option X → X
get_some d None = d
get_some d (Some x) = x

pub some_same : {X : Type 0} (x y : X) → Some x ≡ Some y → x ≡ y
unfolding get_some
some_same x y e = ap (get_some x) e

is_there : {X : Type 0} → Option X → Bool
is_there None = false
is_there (Some x) = true

pub none_some : {X : Type 0} (x : X) → None ≡ Some x → ⊥
unfolding is_there
none_some x e = true≢false (sym (ap is_there e))

-- ---- sets

pub set_same : (s t : AtomSet) → (s.0 == t.0) ≡ true → s ≡ t
set_same s t h = set_is s t (eqb-true s.0 t.0 h)

pub same_set : (s t : AtomSet) → s ≡ t → (s.0 == t.0) ≡ true
same_set s t e = eq-eqb s.0 t.0 (ap (λ (x : AtomSet). x.0) e)

pub lies_within : (c s : AtomSet) → lies_in c s ≡ true → Within c s
lies_within c s h i has =
    let e : bit_at (bit_and c.0 s.0) i ≡ bit_at c.0 i = ap (λ n. bit_at n i) (eqb-true (bit_and c.0 s.0) c.0 h) in
    record { bit = omega (arith, e, bit_at_and c.0 s.0 i, has.bit, bit_at-lt s.0 i) }

pub within_lies : (c s : AtomSet) → Within c s → lies_in c s ≡ true
within_lies c s w = eq-eqb (bit_and c.0 s.0) c.0 (same_from_bits (bit_and c.0 s.0) c.0 at)
  where
    at : (i : ℕ) → bit_at (bit_and c.0 s.0) i ≡ bit_at c.0 i
    at i = elim (cases_eq (bit_at c.0 i) 1) [
      | inl e ↦ let k = (w i (record { bit = e })).bit in omega (arith, bit_at_and c.0 s.0 i, e, k)
      | inr n ↦ omega (arith, bit_at_and c.0 s.0 i, bit_at-lt c.0 i, n)
    ]
