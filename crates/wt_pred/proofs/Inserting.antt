-- A set into which numbers are inserted in turn has the distinct ones, in the order of their first insertion.
use Rattle.std.proofs.Common.{◌≡◌, ℕ, zero, suc, ◌+◌, ◌<◌, nat_eq, false, cond, List, [], ◌∷◌, ◌++◌, length, get_or, drop, filter, refl, sym, ap, ◌∙◌, arith, add-one, append-nil, drop-cons, length-drop, eq-eqb}
use Rattle.std.proofs.lemmas.Bool.Decides.{nat_tests}
use borrow.Author.Tests.{eqb-true}
use Rattle.indexmap.specs.IndexSet.{insert_key, insert_all}
use Rattle.wt_bag.specs.Bags.{DecidesEquality, count_of, distinct}
use Rattle.wt_bag.proofs.BagLaws.{positive, list_any-total}
use Rattle.wt_bag.proofs.Counting.{is_new, distinct_init, distinct_next}

-- the test of numbers decides equality
pub numbers_decide : DecidesEquality nat_eq
numbers_decide = record { sound = eqb-true; reflexive = λ x. eq-eqb x x refl }

insert_key-new : (kept : List ℕ) (x : ℕ) → insert_key nat_eq kept x ≡ cond (is_new nat_eq numbers_decide kept x) (kept ++ x ∷ []) kept
insert_key-new kept x = ap (λ b. cond b kept (kept ++ x ∷ [])) (list_any-total (nat_eq x) kept) ∙ by_count (count_of nat_eq kept x)
  where
    by_count : (n : ℕ) → cond (positive n) kept (kept ++ x ∷ []) ≡ cond (nat_eq n 0) (kept ++ x ∷ []) kept
    by_count zero = refl
    by_count (suc n) =
        let more : nat_eq (suc n) 0 ≡ false = grind (arith, nat_tests) in
        ap (λ b. cond b (kept ++ x ∷ []) kept) (sym more)

inserted_rest : (items rest kept : List ℕ) (i : ℕ) → drop i items ≡ rest
    → kept ++ filter (is_new nat_eq numbers_decide kept) (distinct nat_eq (drop i items)) ≡ distinct nat_eq items → insert_all nat_eq kept rest ≡ distinct nat_eq items
inserted_rest items [] kept i e invariant = sym (append-nil kept) ∙ ap (λ l. kept ++ filter (is_new nat_eq numbers_decide kept) (distinct nat_eq l)) (sym e) ∙ invariant
inserted_rest items (x ∷ rest) kept i e invariant =
    let within : i < length items = omega (arith, length-drop i items, ap length e) in
    let split : drop i items ≡ get_or items i x ∷ drop (i + 1) items = rw (add-one, drop-cons items i x within) refl in
    let is : x ≡ get_or items i x = cc in
    let tail : drop (i + 1) items ≡ rest = cc in
    inserted_rest items rest (insert_key nat_eq kept x) (i + 1) tail
    (distinct_next nat_eq numbers_decide kept (insert_key nat_eq kept x) items x i within is (insert_key-new kept x) invariant)

pub inserted : (items : List ℕ) → insert_all nat_eq [] items ≡ distinct nat_eq items
inserted items = inserted_rest items items [] 0 refl (distinct_init nat_eq numbers_decide items)
