-- Ascending lists of sets.
use Rattle.std.proofs.Common.{ℕ, zero, suc, ◌≡◌, ◌<◌, ◌≤◌, ◌+◌, ◌↔◌, ◌⊎◌, inl, inr, IsTrue, Bool, List, [], ◌∷◌, length, take, drop, get_or, insert, refl, sym, ◌∙◌, subst, arith, eqb-true, eq-eqb, nat_eq}
use Rattle.std.specs.List.{list_any}
use Rattle.std.proofs.lemmas.Bool.{cases_order}
use Rattle.wt_bag.specs.Bags.{Each}
use Rattle.wt_bag.specs.Choices.{Has}
use Rattle.wt_bag.proofs.EachLaws.{each_implies}
use Rattle.wt_bag.proofs.HasLaws.{list_any_has, has_list_any}
use Rattle.wt_constraint.specs.declared.set.AtomSet.{AtomSet}
use Rattle.wt_cores.specs.SetLists.{Ascending, Gains}

-- sets with one number are one
pub set_is : (s t : AtomSet) → s.0 ≡ t.0 → s ≡ t
set_is s t e = λ i. record { 0 = e i }

pub among_tells : (sets : List AtomSet) (set : AtomSet) (found : Bool) → found ≡ list_any (λ other. nat_eq other.0 set.0) sets → IsTrue found ↔ Has set sets
among_tells sets set found is = (
  λ yes. let f = has_list_any (λ other. nat_eq other.0 set.0) sets (sym is ∙ yes) in subst (λ s. Has s sets) (set_is f.0 set (eqb-true f.0.0 set.0 f.2)) f.1,
  λ has. is ∙ list_any_has (λ other. nat_eq other.0 set.0) set sets has (eq-eqb set.0 set.0 refl),
)

pub each_take_more : (P : AtomSet → Type 0) (xs : List AtomSet) (at : ℕ) (d : AtomSet) → at < length xs → P (get_or xs at d) → Each P (take at xs) → Each P (take (at + 1) xs)
each_take_more P [] at d l p each = let bad : ⊥ = omega arith in absurd bad
each_take_more P (x ∷ xs) zero d l p each = (p, tt)
each_take_more P (x ∷ xs) (suc at) d l p each = let e : suc at + 1 ≡ suc (at + 1) = omega arith in subst (λ n. Each P (take n (x ∷ xs))) (sym e) (each.0, each_take_more P xs at d (omega arith) p each.1)

-- where an element is not below, nor are those from it on
pub ascending_after : (set : AtomSet) (xs : List AtomSet) (at : ℕ) (d : AtomSet) → at < length xs → set.0 ≤ (get_or xs at d).0 → Ascending xs → Each (λ s. set.0 ≤ s.0) (drop at xs)
ascending_after set [] at d l p h = let bad : ⊥ = omega arith in absurd bad
ascending_after set (x ∷ xs) zero d l p h = (p, each_implies (λ t. x.0 < t.0) (λ t. set.0 ≤ t.0) xs (λ t q. omega (arith, p, q)) h.0)
ascending_after set (x ∷ xs) (suc at) d l p h = ascending_after set xs at d (omega arith) p h.1

pub has_insert : (s x : AtomSet) (xs : List AtomSet) (at : ℕ) → (Has s (insert xs at x) → Has s xs ⊎ (s ≡ x)) × (Has s xs ⊎ (s ≡ x) → Has s (insert xs at x))
has_insert s x xs zero = (to, from)
  where
    to : Has s (x ∷ xs) → Has s xs ⊎ (s ≡ x)
    to (inl e) = inr e
    to (inr h) = inl h

    from : Has s xs ⊎ (s ≡ x) → Has s (x ∷ xs)
    from (inl h) = inr h
    from (inr e) = inl e
has_insert s x [] (suc at) = (to, from)
  where
    to : Has s (insert [] (suc at) x) → Has s [] ⊎ (s ≡ x)
    to (inl e) = inr e
    to (inr h) = absurd h

    from : Has s [] ⊎ (s ≡ x) → Has s (insert [] (suc at) x)
    from (inl h) = absurd h
    from (inr e) = inl e
has_insert s x (y ∷ xs) (suc at) = (to (has_insert s x xs at), from (has_insert s x xs at))
  where
    to : (Has s (insert xs at x) → Has s xs ⊎ (s ≡ x)) × (Has s xs ⊎ (s ≡ x) → Has s (insert xs at x)) → Has s (y ∷ insert xs at x) → Has s (y ∷ xs) ⊎ (s ≡ x)
    to ih (inl e) = inl (inl e)
    to ih (inr h) = elim (ih.0 h) [ inl k ↦ inl (inr k) | inr e ↦ inr e ]

    from : (Has s (insert xs at x) → Has s xs ⊎ (s ≡ x)) × (Has s xs ⊎ (s ≡ x) → Has s (insert xs at x)) → Has s (y ∷ xs) ⊎ (s ≡ x) → Has s (y ∷ insert xs at x)
    from ih (inl (inl e)) = inl e
    from ih (inl (inr h)) = inr (ih.1 (inl h))
    from ih (inr e) = inr (ih.1 (inr e))

each_insert : (P : AtomSet → Type 0) (x : AtomSet) (xs : List AtomSet) (at : ℕ) → P x → Each P xs → Each P (insert xs at x)
each_insert P x xs zero p each = (p, each)
each_insert P x [] (suc at) p each = (p, tt)
each_insert P x (y ∷ xs) (suc at) p each = (each.0, each_insert P x xs at p each.1)

-- put between what is below and what is above
pub ascending_insert : (x : AtomSet) (xs : List AtomSet) (at : ℕ) → at ≤ length xs → Each (λ s. s.0 < x.0) (take at xs) → Each (λ s. x.0 < s.0) (drop at xs) → Ascending xs → Ascending (insert xs at x)
ascending_insert x xs zero l below above h = (above, h)
ascending_insert x [] (suc at) l below above h = let bad : ⊥ = omega arith in absurd bad
ascending_insert x (y ∷ xs) (suc at) l below above h = (each_insert (λ t. y.0 < t.0) x xs at below.0 h.0, ascending_insert x xs at (omega arith) below.1 above h.1)

-- those not below a set that is not there are above it
pub above_absent : (x : AtomSet) (xs : List AtomSet) → (Has x xs → ⊥) → Each (λ s. x.0 ≤ s.0) xs → Each (λ s. x.0 < s.0) xs
above_absent x [] none each = tt
above_absent x (y ∷ xs) none each = (strict (cases_order x.0 y.0), above_absent x xs (λ h. none (inr h)) each.1)
  where
    strict : (x.0 ≡ y.0) ⊎ ((x.0 < y.0) ⊎ (y.0 < x.0)) → x.0 < y.0
    strict (inl e) = absurd (none (inl (set_is x y e)))
    strict (inr (inl l)) = l
    strict (inr (inr l)) = let le = each.0 in let bad : ⊥ = omega arith in absurd bad

has_drop : (s : AtomSet) (xs : List AtomSet) (at : ℕ) → Has s (drop at xs) → Has s xs
has_drop s xs zero h = h
has_drop s [] (suc at) h = h
has_drop s (x ∷ xs) (suc at) h = inr (has_drop s xs at h)

pub inserted_ascending : (x : AtomSet) (xs : List AtomSet) (at : ℕ) → at ≤ length xs → (Has x xs → ⊥) → Each (λ s. s.0 < x.0) (take at xs) → Each (λ s. x.0 ≤ s.0) (drop at xs) → Ascending xs → Ascending (insert xs at x)
inserted_ascending x xs at l none below above h = ascending_insert x xs at l below (above_absent x (drop at xs) (λ k. none (has_drop x xs at k)) above) h

pub inserted_gains : (x : AtomSet) (xs : List AtomSet) (at : ℕ) → Gains xs (insert xs at x) (λ s. s ≡ x)
inserted_gains x xs at = λ s. has_insert s x xs at

pub known_gains : (x : AtomSet) (xs : List AtomSet) → Has x xs → Gains xs xs (λ s. s ≡ x)
known_gains x xs h = λ s. (λ k. inl k, λ k. elim k [ inl j ↦ j | inr e ↦ subst (λ y. Has y xs) (sym e) h ])
