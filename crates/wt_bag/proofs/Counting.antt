-- Counting by a test that decides equality: what a program that counts, or gathers distinct elements, owes.
use Rattle.std.proofs.Common.{◌≡◌, ◌≢◌, ℕ, ◌+◌, List, [], ◌∷◌, ◌++◌, Bool, true, false, not, ◌&&◌, cond, nat_eq, refl, sym, ◌∙◌, ap, subst, arith, filter, ◌⊎◌, inl, inr, append_assoc, ◌<◌, length, get_or, drop, add-one, drop-cons}
use Rattle.std.specs.Bool.{Decides}
use Rattle.std.specs.List.{count_by, list_all}
use Rattle.std.proofs.lemmas.Bool.Decides.{nat_tests, eqb_tells}
use Rattle.std.proofs.lemmas.List.Sums.{sum_by-cons}
use Rattle.wt_bag.specs.Bags.{total, only, count_of, DecidesEquality, OneBag, distinct, Each}
use Rattle.wt_bag.proofs.TotalLaws.{total-append}

-- std's count of what passes is the sum of 1 over it
pub count_by-total : {X : Type 0} (p : X → Bool) (xs : List X) → count_by p xs ≡ total (λ x. only (p x) 1) xs
count_by-total p [] = refl
count_by-total p (x ∷ xs) = sum_by-cons (λ z. cond (p z) 1 0) x xs ∙ here (p x) (count_by-total p xs)
  where
    here : (b : Bool) → count_by p xs ≡ total (λ z. only (p z) 1) xs → cond b 1 0 + count_by p xs ≡ only b 1 + total (λ z. only (p z) 1) xs
    here true e = ap (λ n. 1 + n) e
    here false e = ap (λ n. 0 + n) e

-- two tests in a row are one test
pub filter-filter : {X : Type 0} (p q both : X → Bool) → ((x : X) → (q x && p x) ≡ both x) → (xs : List X) → filter q (filter p xs) ≡ filter both xs
filter-filter p q both h [] = refl
filter-filter p q both h (x ∷ xs) = grind (arith, h x, filter-filter p q both h xs)

pub filter-true : {X : Type 0} (p : X → Bool) → ((x : X) → p x ≡ true) → (xs : List X) → filter p xs ≡ xs
filter-true p h [] = refl
filter-true p h (x ∷ xs) = rw (h x) (ap (λ ys. x ∷ ys) (filter-true p h xs))

pub list_all-true : {X : Type 0} (p : X → Bool) → ((x : X) → p x ≡ true) → (xs : List X) → list_all p xs ≡ true
list_all-true p h [] = refl
list_all-true p h (x ∷ xs) = rw (h x) (list_all-true p h xs)

pub each_from_list_all : {X : Type 0} (p : X → Bool) (P : X → Type 0) → ((x : X) → p x ≡ true → P x) → (xs : List X) → list_all p xs ≡ true → Each P xs
each_from_list_all p P h [] passes = tt
each_from_list_all p P h (x ∷ xs) passes =
    let both : (p x ≡ true) × (list_all p xs ≡ true) = grind arith in
    (h x both.0, each_from_list_all p P h xs both.1)

module _ {X : Type 0} (same : X → X → Bool) (decides : DecidesEquality same) where
  -- what the test says
  pub tells : (x y : X) → ((same x y ≡ true) × (x ≡ y)) ⊎ ((same x y ≡ false) × (x ≢ y))
  tells x y = here (same x y) refl
    where
      here : (b : Bool) → same x y ≡ b → ((same x y ≡ true) × (x ≡ y)) ⊎ ((same x y ≡ false) × (x ≢ y))
      here true e = inl (e, decides.sound x y e)
      here false e = inr (e, λ q. let t : same x y ≡ true = subst (λ z. same x z ≡ true) q (decides.reflexive x) in cc)

  -- what holds of each element holds of each one that occurs
  pub absent_or : (P : X → Type 0) (xs : List X) (x : X) → Each P xs → (count_of same xs x ≡ 0) ⊎ P x
  absent_or P [] x each = inl refl
  absent_or P (y ∷ ys) x each = here (same x y) refl (absent_or P ys x each.1)
    where
      here : (b : Bool) → same x y ≡ b → (count_of same ys x ≡ 0) ⊎ P x → (only b 1 + count_of same ys x ≡ 0) ⊎ P x
      here true e rest = inr (subst P (sym (decides.sound x y e)) each.0)
      here false e (inl none) = inl (omega arith)
      here false e (inr has) = inr has

  -- counts that agree at the elements of both lists agree
  pub one_bag_by_elements : (xs ys : List X) → Each (λ x. count_of same xs x ≡ count_of same ys x) xs → Each (λ x. count_of same xs x ≡ count_of same ys x) ys → OneBag same xs ys
  one_bag_by_elements xs ys in_xs in_ys = record {
    counts = λ x.
        elim (absent_or _ xs x in_xs) [ inr h ↦ h | inl none_x ↦ elim (absent_or _ ys x in_ys) [ inr h ↦ h | inl none_y ↦ none_x ∙ sym none_y ] ];
  }

  -- whether two lists have equal counts at each of some elements
  abbrev pub alike : List X → List X → List X → Bool
  alike xs ys zs = list_all (λ z. nat_eq (count_of same xs z) (count_of same ys z)) zs

  -- what the tests at the elements of the one list and of the other say together
  pub both_alike : (xs ys : List X) → Decides (alike xs ys xs && alike xs ys ys) (OneBag same xs ys)
  both_alike xs ys = (
    λ h. let parts : (alike xs ys xs ≡ true) × (alike xs ys ys ≡ true) = grind arith in
        let told : (zs : List X) → alike xs ys zs ≡ true → Each (λ z. count_of same xs z ≡ count_of same ys z) zs =
        λ zs. each_from_list_all _ (λ z. count_of same xs z ≡ count_of same ys z) (λ z t. grind (arith, nat_tests)) zs in
        one_bag_by_elements xs ys (told xs parts.0) (told ys parts.1),
    λ h. let told : (zs : List X) → alike xs ys zs ≡ true = list_all-true _ (λ z. let e = h.counts z in grind (arith, nat_tests)) in
        rw (told xs, told ys),
  )

  abbrev pub is_new : List X → X → Bool
  is_new kept x = nat_eq (count_of same kept x) 0

  -- the start of a loop that gathers the distinct elements
  pub distinct_init : (xs : List X) → [] ++ filter (is_new []) (distinct same xs) ≡ distinct same xs
  distinct_init xs = filter-true (is_new []) (λ x. refl) (distinct same xs)

  count_push : (kept : List X) (x y : X) → count_of same (kept ++ x ∷ []) y ≡ count_of same kept y + only (same y x) 1
  count_push kept x y = total-append (λ z. only (same y z) 1) kept (x ∷ []) ∙ (omega arith)

  old_test : (kept : List X) (x y : X) → count_of same kept x ≢ 0 → (is_new kept y && not (same x y)) ≡ is_new kept y
  old_test kept x y h =
      elim (tells x y) [
        | inl e ↦ let seen : count_of same kept y ≢ 0 = subst (λ z. count_of same kept z ≢ 0) e.1 h in grind (arith, nat_tests)
        | inr e ↦ grind (arith, nat_tests)
      ]

  new_test : (kept : List X) (x y : X) → (is_new kept y && not (same x y)) ≡ is_new (kept ++ x ∷ []) y
  new_test kept x y =
      elim (tells x y) [
        | inl e ↦ let back : same y x ≡ true = subst (λ z. same z x ≡ true) e.1 (decides.reflexive x) in
            let more : count_of same (kept ++ x ∷ []) y ≡ count_of same kept y + 1 = count_push kept x y ∙ ap (λ b. count_of same kept y + only b 1) back in
            grind (arith, nat_tests)
        | inr e ↦ let back : same y x ≡ false = elim (tells y x) [ inl d ↦ absurd (e.1 (sym d.1)) | inr d ↦ d.0 ] in
            let more : count_of same (kept ++ x ∷ []) y ≡ count_of same kept y + 0 = count_push kept x y ∙ ap (λ b. count_of same kept y + only b 1) back in
            grind (arith, nat_tests)
      ]

  distinct_old : (kept : List X) (x : X) (xs : List X) → count_of same kept x ≢ 0 → filter (is_new kept) (distinct same (x ∷ xs)) ≡ filter (is_new kept) (distinct same xs)
  distinct_old kept x xs h =
      let known : is_new kept x ≡ false = grind (arith, nat_tests) in
      rw known (filter-filter (λ y. not (same x y)) (is_new kept) (is_new kept) (λ y. old_test kept x y h) (distinct same xs))

  distinct_new : (kept : List X) (x : X) (xs : List X) → count_of same kept x ≡ 0 → kept ++ filter (is_new kept) (distinct same (x ∷ xs)) ≡ (kept ++ x ∷ []) ++ filter (is_new (kept ++ x ∷ [])) (distinct same xs)
  distinct_new kept x xs h =
      let fresh : is_new kept x ≡ true = grind (arith, nat_tests) in
      rw (fresh, append_assoc) (ap (λ ys. kept ++ x ∷ ys) (filter-filter (λ y. not (same x y)) (is_new kept) (is_new (kept ++ x ∷ [])) (λ y. new_test kept x y) (distinct same xs)))

  distinct_step : (kept more : List X) (x : X) (xs : List X) → more ≡ cond (is_new kept x) (kept ++ x ∷ []) kept → kept ++ filter (is_new kept) (distinct same (x ∷ xs)) ≡ more ++ filter (is_new more) (distinct same xs)
  distinct_step kept more x xs h =
      elim (eqb_tells (count_of same kept x) 0) [
        | inl e ↦ let is : more ≡ kept ++ x ∷ [] = rw e.0 at h in rw is (distinct_new kept x xs e.1)
        | inr e ↦ let is : more ≡ kept = rw e.0 at h in rw is (ap (λ ys. kept ++ ys) (distinct_old kept x xs e.1))
      ]

  -- one more turn of that loop: what is kept, then what is new of the elements to come, is the answer
  pub distinct_next : (kept more items : List X) (x : X) (i : ℕ) → i < length items → x ≡ get_or items i x → more ≡ cond (is_new kept x) (kept ++ x ∷ []) kept →
      kept ++ filter (is_new kept) (distinct same (drop i items)) ≡ distinct same items → more ++ filter (is_new more) (distinct same (drop (i + 1) items)) ≡ distinct same items
  distinct_next kept more items x i within is h invariant =
      let split : drop i items ≡ x ∷ drop (i + 1) items = rw (add-one, drop-cons items i x within) (rw (← is) refl) in
      sym (distinct_step kept more x (drop (i + 1) items) h) ∙ rw split at invariant
