-- Lists of sets that gain some.
use Rattle.std.proofs.Common.{ℕ, zero, suc, ◌≡◌, ◌<◌, ◌+◌, ◌*◌, ◌^◌, ◌⊎◌, inl, inr, List, [], ◌∷◌, ◌++◌, length, take, get_or, Bool, true, nat_eq, eqb-true, Option, Some, None, IfNone, add-one, refl, sym, ap, ◌∙◌, subst, arith}
use Rattle.std.specs.Int.{bit_at}
use Rattle.std.proofs.lemmas.Bool.{cases_order}
use Rattle.std.proofs.Math.Seq.{take-suc}
use Rattle.wt_bag.specs.Choices.{Has}
use Rattle.wt_bag.proofs.HasLaws.{has_left, has_right, has_split}
use Rattle.wt_constraint.specs.declared.set.AtomSet.{AtomSet}
use Rattle.wt_constraint.specs.Sets.{HasAtom}
use Rattle.wt_form.specs.Relaxed.{LeavesOut}
use Rattle.wt_cores.specs.SetLists.{Gains}
use Rattle.wt_cores.proofs.Orders.{set_is}

pub less_leaves : (set less : AtomSet) (i : ℕ) → HasAtom set i → less.0 + bit_at set.0 i * 2 ^ i ≡ set.0 → LeavesOut set i less
less_leaves set less i there e = record { there = there; number = ap (λ b. less.0 + b) (one (bit_at set.0 i) (2 ^ i) there.bit) ∙ e }
  where
    one : (b n : ℕ) → b ≡ 1 → n ≡ b * n
    one b n h = omega (arith, ap (λ x. x * n) h)

pub leaves_one : (set less s : AtomSet) (i : ℕ) → LeavesOut set i less → LeavesOut set i s → s ≡ less
leaves_one set less s i a b = let p = a.number in let q = b.number in set_is s less (omega (arith, p, q))

-- nothing is gained where nothing has the property
pub gains_none : (old : List AtomSet) (P : AtomSet → Type 0) → ((s : AtomSet) → P s → ⊥) → Gains old old P
gains_none old P none = λ s. (λ h. inl h, λ k. elim k [ inl h ↦ h | inr q ↦ absurd (none s q) ])

-- what is gained is told in other words
pub gains_said : (old new : List AtomSet) (P Q : AtomSet → Type 0) → ((s : AtomSet) → P s → Q s) → ((s : AtomSet) → Q s → P s) → Gains old new P → Gains old new Q
gains_said old new P Q f g gains = λ s. (λ h. elim ((gains s).0 h) [ inl k ↦ inl k | inr q ↦ inr (f s q) ], λ k. elim k [ inl h ↦ (gains s).1 (inl h) | inr q ↦ (gains s).1 (inr (g s q)) ])

-- gained one after the other
pub gains_twice : (old mid new : List AtomSet) (P Q R : AtomSet → Type 0) → ((s : AtomSet) → P s ⊎ Q s → R s) → ((s : AtomSet) → R s → P s ⊎ Q s) → Gains old mid P → Gains mid new Q → Gains old new R
gains_twice old mid new P Q R f g first second = λ s. (
  λ h. elim ((second s).0 h) [
    | inl k ↦ elim ((first s).0 k) [ inl j ↦ inl j | inr p ↦ inr (f s (inl p)) ]
    | inr q ↦ inr (f s (inr q))
  ],
  λ k. elim k [
    | inl h ↦ (second s).1 (inl ((first s).1 (inl h)))
    | inr r ↦ elim (g s r) [ inl p ↦ (second s).1 (inl ((first s).1 (inr p))) | inr q ↦ (second s).1 (inr q) ]
  ],
)

-- some number below one has the property
abbrev pub Below : (ℕ → AtomSet → Type 0) → ℕ → AtomSet → Type 0
Below P i s = (j : ℕ) × (j < i) × P j s

pub gains_more : (P : ℕ → AtomSet → Type 0) (i : ℕ) (old mid new : List AtomSet) → Gains old mid (Below P i) → Gains mid new (P i) → Gains old new (Below P (i + 1))
gains_more P i old mid new = gains_twice old mid new (Below P i) (P i) (Below P (i + 1)) to from
  where
    to : (s : AtomSet) → Below P i s ⊎ P i s → Below P (i + 1) s
    to s (inl b) = (b.0, (let l = b.1 in omega (arith, l)), b.2)
    to s (inr q) = (i, omega arith, q)

    from : (s : AtomSet) → Below P (i + 1) s → Below P i s ⊎ P i s
    from s b = elim (cases_order b.0 i) [
      | inl e ↦ inr (subst (λ j. P j s) e b.2)
      | inr (inl l) ↦ inl (b.0, l, b.2)
      | inr (inr l) ↦ let k = b.1 in let bad : ⊥ = omega (arith, k, l) in absurd bad
    ]

-- an element more of a list that is walked
pub longer : (xs : List AtomSet) (at : ℕ) (d : AtomSet) → at < length xs → take (at + 1) xs ≡ take at xs ++ get_or xs at d ∷ []
longer xs at d l = rw (add-one, take-suc xs at d l) refl

pub has_more : (s : AtomSet) (xs : List AtomSet) (at : ℕ) (d : AtomSet) → at < length xs → Has s (take at xs) ⊎ (s ≡ get_or xs at d) → Has s (take (at + 1) xs)
has_more s xs at d l (inl h) = subst (Has s) (sym (longer xs at d l)) (has_left s (take at xs) (get_or xs at d ∷ []) h)
has_more s xs at d l (inr e) = subst (Has s) (sym (longer xs at d l)) (has_right s (take at xs) (get_or xs at d ∷ []) (inl e))

pub has_before : (s : AtomSet) (xs : List AtomSet) (at : ℕ) (d : AtomSet) → at < length xs → Has s (take (at + 1) xs) → Has s (take at xs) ⊎ (s ≡ get_or xs at d)
has_before s xs at d l h = elim (has_split s (take at xs) (get_or xs at d ∷ []) (subst (Has s) (longer xs at d l) h)) [
  | inl k ↦ inl k
  | inr k ↦ elim k [ inl e ↦ inr e | inr n ↦ absurd n ]
]

-- what is read at a place of a list is one of it
pub has_at : (xs : List AtomSet) (at : ℕ) (d : AtomSet) → at < length xs → Has (get_or xs at d) xs
has_at [] at d l = let bad : ⊥ = omega (arith, l) in absurd bad
has_at (x ∷ xs) zero d l = inl refl
has_at (x ∷ xs) (suc at) d l = inr (has_at xs at d (omega (arith, l)))

-- what is told of no value, where there is none
pub none_told : {X : Type 0} (P : Type 0) (r : Option X) → ((x : X) → r ≡ Some x → ⊥) → IfNone r P → P
none_told P None empty told = told
none_told P (Some x) empty told = absurd (empty x refl)

-- a list without elements
pub nothing_is_left : (xs : List AtomSet) (empty : Bool) → empty ≡ nat_eq (length xs) 0 → empty ≡ true → xs ≡ []
nothing_is_left [] empty e t = refl
nothing_is_left (x ∷ xs) empty e t = let q = eqb-true (length (x ∷ xs)) 0 (sym e ∙ t) in let bad : ⊥ = omega (arith, q) in absurd bad
