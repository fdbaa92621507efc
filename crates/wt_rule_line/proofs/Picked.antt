-- Elements picked by the bits of a number.
use Rattle.std.proofs.Common.{◌≡◌, ◌≢◌, ℕ, suc, ◌+◌, ◌-◌, ◌*◌, ◌/◌, ◌%◌, ◌^◌, ◌<◌, ◌≤◌, true, false, List, [], ◌∷◌, map, length, take, drop, get_or, refl, sym, ap, ◌∙◌, inl, inr, arith, pow-suc}
use Rattle.std.specs.Prelude.{◌==◌, if◌then◌else◌}
use Rattle.std.specs.Int.{bit_at}
use Rattle.std.proofs.lemmas.Grind.{common_steps}
use Rattle.std.proofs.lemmas.Bool.{cases_eq}
use Rattle.std.proofs.lemmas.List.{take_all}
use Rattle.std.proofs.lemmas.Nat.Bits.{bit_at_lowest, bit_at-suc}
use Rattle.wt_bag.specs.Bags.{Each}
use Rattle.wt_bag.specs.Choices.{Apart}
use Rattle.wt_constraint.specs.declared.set.AtomSet.{AtomSet}
use Rattle.wt_rule.specs.Texts.{chosen}
use Rattle.wt_constraint.specs.declared.atom.Atom.{Atom}
use Rattle.wt_rule_line.specs.Sets.{picked}

yes : (n : ℕ) → n ≡ 1 → (n == 1) ≡ true
yes n e = grind (arith, common_steps)

no : (n : ℕ) → n ≢ 1 → (n == 1) ≡ false
no n e = grind (arith, common_steps)

picked_odd : {A : Type 0} (n : ℕ) (x : A) (xs : List A) → n % 2 ≡ 1 → picked n (x ∷ xs) ≡ x ∷ picked (n / 2) xs
picked_odd n x xs odd = ap (λ b. if b then x ∷ picked (n / 2) xs else picked (n / 2) xs) (yes (n % 2) odd)

picked_even : {A : Type 0} (n : ℕ) (x : A) (xs : List A) → n % 2 ≢ 1 → picked n (x ∷ xs) ≡ picked (n / 2) xs
picked_even n x xs even = ap (λ b. if b then x ∷ picked (n / 2) xs else picked (n / 2) xs) (no (n % 2) even)

pub took : {A : Type 0} (m : ℕ) (x : A) (xs rest : List A) → picked m xs ≡ rest → picked (2 * m + 1) (x ∷ xs) ≡ x ∷ rest
took m x xs rest is =
    let half : (2 * m + 1) / 2 ≡ m = omega arith in
    picked_odd (2 * m + 1) x xs (omega arith) ∙ ap (λ n. x ∷ picked n xs) half ∙ ap (λ l. x ∷ l) is

pub passed : {A : Type 0} (m : ℕ) (x : A) (xs l : List A) → picked m xs ≡ l → picked (2 * m) (x ∷ xs) ≡ l
passed m x xs l is =
    let half : 2 * m / 2 ≡ m = omega arith in
    let even : 2 * m % 2 ≢ 1 = omega arith in
    picked_even (2 * m) x xs even ∙ ap (λ n. picked n xs) half ∙ is

-- what is not among them is not picked
pub not_picked : {A : Type 0} (x : A) (n : ℕ) (xs rest : List A) → Each (λ y. x ≢ y) xs → picked n xs ≡ x ∷ rest → ⊥
not_picked x n [] rest apart is = absurd (cc)
not_picked x n (y ∷ ys) rest apart is =
    elim (cases_eq (n % 2) 1) [
      | inl odd ↦ let first : y ∷ picked (n / 2) ys ≡ x ∷ rest = sym (picked_odd n y ys odd) ∙ is in let same : x ≡ y = cc in apart.0 same
      | inr even ↦ not_picked x (n / 2) ys rest apart.1 (sym (picked_even n y ys even) ∙ is)
    ]

pub took_none : {A : Type 0} (x : A) (xs rest : List A) → Each (λ y. x ≢ y) xs → ((n : ℕ) → picked n xs ≡ rest → ⊥) → (n : ℕ) → picked n (x ∷ xs) ≡ x ∷ rest → ⊥
took_none x xs rest apart none n is =
    elim (cases_eq (n % 2) 1) [
      | inl odd ↦ let both : x ∷ picked (n / 2) xs ≡ x ∷ rest = sym (picked_odd n x xs odd) ∙ is in let same : picked (n / 2) xs ≡ rest = cc in none (n / 2) same
      | inr even ↦ not_picked x (n / 2) xs rest apart (sym (picked_even n x xs even) ∙ is)
    ]

pub passed_none : {A : Type 0} (x : A) (xs l : List A) → ((rest : List A) → l ≡ x ∷ rest → ⊥) → ((n : ℕ) → picked n xs ≡ l → ⊥) → (n : ℕ) → picked n (x ∷ xs) ≡ l → ⊥
passed_none x xs l other none n is =
    elim (cases_eq (n % 2) 1) [
      | inl odd ↦ other (picked (n / 2) xs) (sym is ∙ picked_odd n x xs odd)
      | inr even ↦ none (n / 2) (sym (picked_even n x xs even) ∙ is)
    ]

pub picked_once : {A : Type 0} (xs : List A) → Apart xs → (n m : ℕ) → n < 2 ^ length xs → m < 2 ^ length xs → picked n xs ≡ picked m xs → n ≡ m
picked_once [] apart n m small_n small_m is = omega arith
picked_once (x ∷ xs) apart n m small_n small_m is =
    let pow : 2 ^ length (x ∷ xs) ≡ 2 ^ length xs * 2 = pow-suc 2 (length xs) in
    let half_n : n / 2 < 2 ^ length xs = omega arith in
    let half_m : m / 2 < 2 ^ length xs = omega arith in
    elim (cases_eq (n % 2) 1) [
      | inl odd_n ↦
          elim (cases_eq (m % 2) 1) [
            | inl odd_m ↦
                let both : x ∷ picked (n / 2) xs ≡ x ∷ picked (m / 2) xs = sym (picked_odd n x xs odd_n) ∙ is ∙ picked_odd m x xs odd_m in
                let same : picked (n / 2) xs ≡ picked (m / 2) xs = cc in
                let halves = picked_once xs apart.1 (n / 2) (m / 2) half_n half_m same in
                omega arith
            | inr even_m ↦ absurd (not_picked x (m / 2) xs (picked (n / 2) xs) apart.0 (sym (picked_even m x xs even_m) ∙ sym is ∙ picked_odd n x xs odd_n))
          ]
      | inr even_n ↦
          elim (cases_eq (m % 2) 1) [
            | inl odd_m ↦ absurd (not_picked x (n / 2) xs (picked (m / 2) xs) apart.0 (sym (picked_even n x xs even_n) ∙ is ∙ picked_odd m x xs odd_m))
            | inr even_m ↦
                let same : picked (n / 2) xs ≡ picked (m / 2) xs = sym (picked_even n x xs even_n) ∙ is ∙ picked_even m x xs even_m in
                let halves = picked_once xs apart.1 (n / 2) (m / 2) half_n half_m same in
                omega arith
          ]
    ]

-- the atoms of a set are those at the bits of its number
chosen_by : {B : Type 0} (f : Atom → B) (set : AtomSet) (i n : ℕ) (xs : List Atom) → ((j : ℕ) → bit_at set.0 (i + j) ≡ bit_at n j) → map f (chosen set i xs) ≡ picked n (map f xs)
chosen_by f set i n [] same = refl
chosen_by f set i n (x ∷ xs) same =
    let first : bit_at set.0 i ≡ n % 2 = ap (bit_at set.0) (let e : i ≡ i + 0 = omega arith in e) ∙ same 0 ∙ bit_at_lowest n in
    let rest = chosen_by f set (suc i) (n / 2) xs (λ j. ap (bit_at set.0) (let e : suc i + j ≡ i + suc j = omega arith in e) ∙ same (suc j) ∙ bit_at-suc n j) in
    elim (cases_eq (n % 2) 1) [
      | inl odd ↦
          ap (λ b. map f (if b then x ∷ chosen set (suc i) xs else chosen set (suc i) xs)) (yes (bit_at set.0 i) (first ∙ odd)) ∙ ap (λ l. f x ∷ l) rest ∙ sym (picked_odd n (f x) (map f xs) odd)
      | inr even ↦
          ap (λ b. map f (if b then x ∷ chosen set (suc i) xs else chosen set (suc i) xs)) (no (bit_at set.0 i) (λ e. even (sym first ∙ e))) ∙ rest ∙ sym (picked_even n (f x) (map f xs) even)
    ]

pub chosen_picked : {B : Type 0} (f : Atom → B) (set : AtomSet) (xs : List Atom) → map f (chosen set 0 xs) ≡ picked set.0 (map f xs)
chosen_picked f set xs = chosen_by f set 0 set.0 xs (λ j. ap (bit_at set.0) (let e : 0 + j ≡ j = omega arith in e))

pub took_none_at : {A : Type 0} (all list : List A) (d e : A) → 1 ≤ length all → 1 ≤ length list → get_or list 0 e ≡ get_or all 0 d → Apart all →
    ((n : ℕ) → picked n (take (length all - 1) (drop 1 all)) ≡ take (length list - 1) (drop 1 list) → ⊥) → (n : ℕ) → picked n all ≡ list → ⊥
took_none_at [] list d e some more same apart none n is = absurd (omega arith)
took_none_at (x ∷ xs) [] d e some more same apart none n is = absurd (omega arith)
took_none_at (x ∷ xs) (y ∷ ys) d e some more same apart none n is =
    let whole : take (length (x ∷ xs) - 1) xs ≡ xs = take_all (length (x ∷ xs) - 1) xs (omega arith) in
    let rest : take (length (y ∷ ys) - 1) ys ≡ ys = take_all (length (y ∷ ys) - 1) ys (omega arith) in
    took_none x xs ys apart.0 (λ m h. none m (ap (picked m) whole ∙ h ∙ sym rest)) n (is ∙ ap (λ z. z ∷ ys) same)
