-- Pairing two lists under an equivalence: equal counts, and any partner serves.
use Rattle.std.proofs.Common.{◌⊎◌, inl, inr, ◌&&◌, nat_eq, ℕ, zero, suc, ◌+◌, ◌<◌, Bool, true, false, List, [], ◌∷◌, ◌≡◌, refl, sym, ap, ◌∙◌, arith}
use Rattle.std.specs.Bool.{Decides}
use Rattle.std.specs.List.{list_all}
use Rattle.std.proofs.lemmas.Bool.Decides.{nat_tests}
use Rattle.wt_bag.specs.Bags.{only, count_of, Each}
use Rattle.wt_bag.proofs.Counting.{each_from_list_all, list_all-true}
use Rattle.wt_bag.specs.Choices.{At, PairsBy, drop_at}

-- the relation is reflexive, symmetric and transitive
pub record IsEquivalent {X : Type 0} (R : X → X → Bool) : Type 0 where
  pub reflexive : (x : X) → R x x ≡ true
  pub symmetric : (x y : X) → R x y ≡ true → R y x ≡ true
  pub transitive : (x y z : X) → R x y ≡ true → R y z ≡ true → R x z ≡ true

module _ {X : Type 0} (R : X → X → Bool) (law : IsEquivalent R) where
  agree : (x y z : X) → R x y ≡ true → R z x ≡ R z y
  agree x y z h = go (R z x) refl (R z y) refl
    where
      go : (a : Bool) → R z x ≡ a → (b : Bool) → R z y ≡ b → a ≡ b
      go true e true f = refl
      go false e false f = refl
      go true e false f = sym (law.transitive z x y e h) ∙ f
      go false e true f = sym e ∙ law.transitive z y x f (law.symmetric x y h)

  count-drop_at : (x z : X) (j : ℕ) (ys : List X) → At (λ y. R x y ≡ true) j ys → count_of R ys z ≡ only (R z x) 1 + count_of R (drop_at j ys) z
  count-drop_at x z j [] h = absurd h
  count-drop_at x z zero (y ∷ ys) h = ap (λ b. only b 1 + count_of R ys z) (sym (agree x y z h))
  count-drop_at x z (suc j) (y ∷ ys) h = omega (arith, count-drop_at x z j ys h)

  counts_from_pairs : (xs ys : List X) → PairsBy R xs ys → (z : X) → count_of R xs z ≡ count_of R ys z
  counts_from_pairs [] ys h z = ap (λ l. count_of R l z) (sym h)
  counts_from_pairs (x ∷ xs) ys h z = omega (arith, count-drop_at x z h.0 ys h.1, counts_from_pairs xs (drop_at h.0 ys) h.2 z)

  first_place : (x : X) (ys : List X) → 0 < count_of R ys x → (j : ℕ) × At (λ y. R x y ≡ true) j ys
  first_place x [] l = let bad : ⊥ = omega arith in absurd bad
  first_place x (y ∷ ys) l = go (R x y) refl l (first_place x ys)
    where
      go : (b : Bool) → R x y ≡ b → 0 < only b 1 + count_of R ys x → (0 < count_of R ys x → (j : ℕ) × At (λ w. R x w ≡ true) j ys) → (j : ℕ) × At (λ w. R x w ≡ true) j (y ∷ ys)
      go true e l' ih = (0, e)
      go false e l' ih = let r = ih (omega arith) in (suc r.0, r.1)

  none_counted : (ys : List X) → ((z : X) → 0 ≡ count_of R ys z) → ys ≡ []
  none_counted [] h = refl
  none_counted (y ∷ ys) h = let here = h y in let one : only (R y y) 1 ≡ 1 = ap (λ b. only b 1) (law.reflexive y) in let bad : ⊥ = omega arith in absurd bad

  pairs_from_counts : (xs ys : List X) → ((z : X) → count_of R xs z ≡ count_of R ys z) → PairsBy R xs ys
  pairs_from_counts [] ys h = none_counted ys h
  pairs_from_counts (x ∷ xs) ys h =
      let one : only (R x x) 1 ≡ 1 = ap (λ b. only b 1) (law.reflexive x) in
      let p = first_place x ys (omega (arith, h x, one)) in
      (p.0, p.1, pairs_from_counts xs (drop_at p.0 ys) (λ z. omega (arith, h z, count-drop_at x z p.0 ys p.1)))

  -- any partner of the first element serves
  pub greedy : (x : X) (xs ys : List X) (j : ℕ) → At (λ y. R x y ≡ true) j ys → PairsBy R (x ∷ xs) ys → PairsBy R xs (drop_at j ys)
  greedy x xs ys j a h = pairs_from_counts xs (drop_at j ys) (λ z. omega (arith, count-drop_at x z j ys a, counts_from_pairs (x ∷ xs) ys h z))

  -- what occurs is related to some element
  occurs_or : (P : X → Type 0) → ((x y : X) → R x y ≡ true → P y → P x) → (xs : List X) (z : X) → Each P xs → (count_of R xs z ≡ 0) ⊎ P z
  occurs_or P respects [] z each = inl refl
  occurs_or P respects (x ∷ xs) z each = here (R z x) refl (occurs_or P respects xs z each.1)
    where
      here : (b : Bool) → R z x ≡ b → (count_of R xs z ≡ 0) ⊎ P z → (only b 1 + count_of R xs z ≡ 0) ⊎ P z
      here true e rest = inr (respects z x e each.0)
      here false e (inl none) = inl (omega arith)
      here false e (inr has) = inr has

  count_related : (xs : List X) (z w : X) → R z w ≡ true → count_of R xs z ≡ count_of R xs w
  count_related [] z w h = refl
  count_related (x ∷ xs) z w h =
      let b : R z x ≡ R w x = go (R z x) refl (R w x) refl in
      ap (λ b. only b 1 + count_of R xs z) b ∙ ap (λ n. only (R w x) 1 + n) (count_related xs z w h)
    where
      go : (a : Bool) → R z x ≡ a → (b : Bool) → R w x ≡ b → a ≡ b
      go true e true f = refl
      go false e false f = refl
      go true e false f = sym (law.transitive w z x (law.symmetric z w h) e) ∙ f
      go false e true f = sym e ∙ law.transitive z w x h f

  -- counts that agree at the elements of both lists agree
  pub counts_by_elements : (xs ys : List X) → Each (λ z. count_of R xs z ≡ count_of R ys z) xs → Each (λ z. count_of R xs z ≡ count_of R ys z) ys → (z : X) → count_of R xs z ≡ count_of R ys z
  counts_by_elements xs ys in_xs in_ys z =
      let at : X → Type 0 = λ w. count_of R xs w ≡ count_of R ys w in
      let respects : (x y : X) → R x y ≡ true → at y → at x = λ x y e h. count_related xs x y e ∙ h ∙ sym (count_related ys x y e) in
      elim (occurs_or at respects xs z in_xs) [ inr h ↦ h | inl none_x ↦ elim (occurs_or at respects ys z in_ys) [ inr h ↦ h | inl none_y ↦ none_x ∙ sym none_y ] ]

  abbrev pub alike_by : List X → List X → List X → Bool
  alike_by xs ys zs = list_all (λ z. nat_eq (count_of R xs z) (count_of R ys z)) zs

  -- a pairing is there exactly where the counts agree at the elements of both
  pub both_alike_pairs : (xs ys : List X) → Decides (alike_by xs ys xs && alike_by xs ys ys) (PairsBy R xs ys)
  both_alike_pairs xs ys = (
    λ h. let parts : (alike_by xs ys xs ≡ true) × (alike_by xs ys ys ≡ true) = grind arith in
        let told : (zs : List X) → alike_by xs ys zs ≡ true → Each (λ z. count_of R xs z ≡ count_of R ys z) zs =
        λ zs. each_from_list_all _ (λ z. count_of R xs z ≡ count_of R ys z) (λ z t. grind (arith, nat_tests)) zs in
        pairs_from_counts xs ys (counts_by_elements xs ys (told xs parts.0) (told ys parts.1)),
    λ h. let told : (zs : List X) → alike_by xs ys zs ≡ true = list_all-true _ (λ z. let e = counts_from_pairs xs ys h z in grind (arith, nat_tests)) in
        rw (told xs, told ys),
  )
