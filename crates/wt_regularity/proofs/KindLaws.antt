-- What the tests of kinds say.
use Rattle.std.proofs.Common.{◌≡◌, ◌<◌, ◌≤◌, ◌+◌, ℕ, suc, nat_lt, true, List, [], ◌∷◌, length, drop, get_or, refl, sym, ap, subst, ◌∙◌, arith, add-one, drop-cons, length-drop}
use Rattle.wt_schema.specs.declared.schema.ColKind.{ColKind}
use Rattle.wt_schema.specs.declared.schema.ColKind.TheVariants.{Int, Text}
use Rattle.wt_plan.specs.Regular as regular
use Rattle.wt_plan.specs.Regular.{kinds_at}
use Rattle.wt_regularity.specs.Kinds.{kind_same, all_same}
use Rattle.wt_regularity.specs.Deciding.{kind_at, has_kind, matched_from}
use Rattle.wt_regularity.proofs.Tests.{both, make, lt_of, lt_test, le_of, le_test}

pub kind_sound : (a b : ColKind) → kind_same a b ≡ true → a ≡ b
kind_sound Int Int e = refl
kind_sound Int Text e = cc
kind_sound Text Int e = cc
kind_sound Text Text e = refl

pub kind_full : (a b : ColKind) → a ≡ b → kind_same a b ≡ true
kind_full Int Int e = refl
kind_full Int Text e = cc
kind_full Text Int e = cc
kind_full Text Text e = refl

pub kinds_sound : (xs ys : List ColKind) → all_same xs ys ≡ true → xs ≡ ys
kinds_sound [] [] e = refl
kinds_sound [] (y ∷ ys) e = cc
kinds_sound (x ∷ xs) [] e = cc
kinds_sound (x ∷ xs) (y ∷ ys) e =
    let parts = both (kind_same x y) (all_same xs ys) e in
    let head : x ≡ y = kind_sound x y parts.0 in
    let rest : xs ≡ ys = kinds_sound xs ys parts.1 in
    cc

same_self : (xs : List ColKind) → all_same xs xs ≡ true
same_self [] = refl
same_self (x ∷ xs) = make (kind_same x x) (all_same xs xs) (kind_full x x refl) (same_self xs)

pub kinds_full : (xs ys : List ColKind) → xs ≡ ys → all_same xs ys ≡ true
kinds_full xs ys e = subst (λ (zs : List ColKind). all_same xs zs ≡ true) e (same_self xs)

drop_none : (xs : List ColKind) (n : ℕ) → length xs ≤ n → drop n xs ≡ []
drop_none xs n h = empty (drop n xs) (omega (arith, length-drop n xs))
  where
    empty : (ys : List ColKind) → length ys ≡ 0 → ys ≡ []
    empty [] e = refl
    empty (y ∷ ys) e = absurd (omega (arith, e))

pub matched_sound : (left right : List ColKind) (place : ℕ) (cols : List ℕ) → matched_from left right place cols ≡ true → kinds_at left cols ≡ drop place right
matched_sound left right place [] e = sym (drop_none right place (le_of (length right) place e))
matched_sound left right place (c ∷ cols) e =
    let parts = both (has_kind right place (kind_at left c)) (matched_from left right (place + 1) cols) e in
    let here = both (nat_lt place (length right)) (kind_same (kind_at left c) (kind_at right place)) parts.0 in
    let within : place < length right = lt_of place (length right) here.0 in
    let head : regular.kind_at left c ≡ get_or right place Int = kind_sound (kind_at left c) (kind_at right place) here.1 in
    let rest : kinds_at left cols ≡ drop (place + 1) right = matched_sound left right (place + 1) cols parts.1 in
    let split : drop place right ≡ get_or right place Int ∷ drop (place + 1) right = rw (add-one, drop-cons right place Int within) refl in
    (λ i. head i ∷ rest i) ∙ sym split

pub matched_full : (left right : List ColKind) (place : ℕ) (cols : List ℕ) → kinds_at left cols ≡ drop place right → matched_from left right place cols ≡ true
matched_full left right place [] e =
    let none : length (drop place right) ≡ 0 = ap length (sym e) in
    le_test (length right) place (omega (arith, length-drop place right, none))
matched_full left right place (c ∷ cols) e =
    let some : suc (length (kinds_at left cols)) ≡ length (drop place right) = ap length e in
    let within : place < length right = omega (arith, length-drop place right, some) in
    let split : drop place right ≡ get_or right place Int ∷ drop (place + 1) right = rw (add-one, drop-cons right place Int within) refl in
    let both_lists : regular.kind_at left c ∷ kinds_at left cols ≡ get_or right place Int ∷ drop (place + 1) right = e ∙ split in
    let head : regular.kind_at left c ≡ get_or right place Int = cc in
    let rest : kinds_at left cols ≡ drop (place + 1) right = cc in
    make (has_kind right place (kind_at left c)) (matched_from left right (place + 1) cols)
    (make (nat_lt place (length right)) (kind_same (kind_at left c) (kind_at right place)) (lt_test place (length right) within) (kind_full (kind_at left c) (kind_at right place) head))
    (matched_full left right (place + 1) cols rest)
