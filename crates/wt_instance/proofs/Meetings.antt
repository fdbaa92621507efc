-- What loops over rows and atoms have seen.
use Rattle.std.proofs.Common.{◌≡◌, ◌↔◌, ℕ, ◌+◌, ◌-◌, ◌^◌, ◌<◌, ◌≤◌, Bool, true, false, List, [], ◌∷◌, length, get_or, take, drop, Some, inl, inr, refl, sym, ap, ◌∙◌, subst, arith}
use Rattle.std.specs.Prelude.{slice_get}
use Rattle.std.proofs.lemmas.Bool.{cases_lt}
use Rattle.std.proofs.lemmas.Option.{slice_get-get_or, slice_get_within}
use Rattle.wt_bag.specs.Bags.{among, Each}
use Rattle.wt_bag.proofs.HasLaws.{list_any_has, has_list_any, each_from_has}
use Rattle.wt_bag.proofs.UniqueLists.{each_has}
use Rattle.wt_value.specs.Values.{Tuple, pick, row_same, row_matches}
use Rattle.wt_value.proofs.Comparing.{row_same_decides}
use Rattle.wt_constraint.specs.declared.atom.Atom.{Atom}
use Rattle.wt_constraint.specs.declared.set.AtomSet.{AtomSet}
use Rattle.wt_constraint.specs.Sets.{HasAtom}
use Rattle.wt_constraint.proofs.SetLemmas.{not_from_64}
use Rattle.wt_instance.specs.declared.instance.Instance.{Instance}
use Rattle.wt_instance.specs.Meeting.{IsUnique, Holds, AtomsHold}

same_test : (b c : Bool) → (b ≡ true → c ≡ true) → (c ≡ true → b ≡ true) → b ≡ c
same_test true true f g = refl
same_test false false f g = refl
same_test true false f g = sym (f refl)
same_test false true f g = g refl

-- what is among rows that are each among others is among those
passes_on : (xs ys : List Tuple) (row : Tuple) → Each (λ x. among row_same ys x ≡ true) xs → among row_same xs row ≡ true → among row_same ys row ≡ true
passes_on xs ys row each t =
    let found = has_list_any (λ y. row_same row y) xs t in
    let same : row ≡ found.0 = row_same_decides.sound row found.0 found.2 in
    subst (λ x. among row_same ys x ≡ true) (sym same) (each_has (λ x. among row_same ys x ≡ true) found.0 xs each found.1)

-- the same rows are among both lists, where each row of either is among the other's
pub same_rows : (xs ys : List Tuple) → Each (λ x. among row_same ys x ≡ true) xs → Each (λ y. among row_same xs y ≡ true) ys → (row : Tuple) → among row_same xs row ≡ among row_same ys row
same_rows xs ys in_ys in_xs row = same_test _ _ (passes_on xs ys row in_ys) (passes_on ys xs row in_xs)

pub each_among : (xs ys : List Tuple) → ((row : Tuple) → among row_same xs row ≡ among row_same ys row) → Each (λ x. among row_same ys x ≡ true) xs
each_among xs ys h = each_from_has (λ x. among row_same ys x ≡ true) xs (λ x has. sym (h x) ∙ list_any_has (λ y. row_same x y) x xs has (row_same_decides.reflexive x))

take_all : {X : Type 0} (xs : List X) (n : ℕ) → length xs ≡ n → take n xs ≡ xs
take_all [] n e = rw (sym e) refl
take_all (x ∷ xs) n e = rw (sym e) (ap (λ l. x ∷ l) (take_all xs (length xs) refl))

-- the first row, and those behind it
pub unique_first : (ns : List ℕ) (rows : List Tuple) (x d : Tuple) → 1 ≤ length rows → x ≡ get_or rows 0 d →
    IsUnique ns rows ↔ (Each (λ y. row_matches (pick ns x) (pick ns y) ≡ false) (take (length rows - 1) (drop 1 rows)) × IsUnique ns (take (length rows - 1) (drop 1 rows)))
unique_first ns [] x d h e = absurd (omega arith)
unique_first ns (row ∷ rows) x d h e =
    let whole : take (length (row ∷ rows) - 1) rows ≡ rows = take_all rows _ (omega arith) in
    rw (whole, e) (λ u. u, λ u. u)

-- the atoms of a set, as far as a loop has come
module _ (A : List ℕ) (I : Instance) (set : AtomSet) (items atoms : List Atom) (same : items ≡ atoms) where
  abbrev pub HoldBelow : ℕ → Type 0
  HoldBelow n = (j : ℕ) (x : Atom) → j < n → HasAtom set j → slice_get atoms j ≡ Some x → Holds A I x

  there : (k : ℕ) (d : Atom) → k < length items → slice_get atoms k ≡ Some (get_or items k d)
  there k d within = rw (← same) (slice_get-get_or items k d within)

  pub hold_more : (k : ℕ) (d : Atom) → k < length items → HoldBelow k → (HasAtom set k → Holds A I (get_or items k d)) → HoldBelow (k + 1)
  hold_more k d within below here j x less has at =
      elim (cases_lt j k) [
        | inl lt ↦ below j x lt has at
        | inr ge ↦
            let is : j ≡ k = omega arith in
            let both : Some (get_or items k d) ≡ Some x = sym (there k d within) ∙ (subst (λ i. slice_get atoms i ≡ Some x) is at) in
            let atom : get_or items k d ≡ x = cc in
            subst (Holds A I) atom (here (subst (HasAtom set) is has))
      ]

  pub hold_all : (n : ℕ) → length items ≤ n → HoldBelow n → AtomsHold atoms set A I
  hold_all n h below k x has at =
      let within : k < length atoms = slice_get_within atoms k x at in
      let equal : length items ≡ length atoms = ap length same in
      below k x (omega arith) has at

  pub hold_from_64 : (n : ℕ) → set.0 < 2 ^ 64 → 64 ≤ n → HoldBelow n → AtomsHold atoms set A I
  hold_from_64 n small h below k x has at =
      elim (cases_lt k n) [
        | inl lt ↦ below k x lt has at
        | inr ge ↦ absurd (not_from_64 set k small (omega arith) has)
      ]

  pub holds_here : (k : ℕ) (d : Atom) → k < length items → AtomsHold atoms set A I → HasAtom set k → Holds A I (get_or items k d)
  holds_here k d within all has = all k (get_or items k d) has (there k d within)
