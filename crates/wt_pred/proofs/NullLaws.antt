-- What the form of a predicate tells of a NULL holds: with NULL at the column it is never True, or never False.
use Rattle.std.proofs.Common.{◌≡◌, ◌≢◌, ◌⊎◌, ℕ, nat_eq, Bool, true, false, ◌||◌, ◌&&◌, List, [], ◌∷◌, map, refl, sym, ap, subst, ◌∙◌, inl, inr}
use Rattle.std.proofs.lemmas.Bool.{false≢true}
use borrow.Author.Tests.{eqb-true}
use Rattle.wt_value.specs.declared.value.Truth.{Truth}
use Rattle.wt_value.specs.declared.value.Truth.TheVariants.{False, Unknown, True}
use Rattle.wt_value.specs.declared.value.Value.{Value}
use Rattle.wt_value.specs.declared.value.Value.TheVariants.{Null, Int, Text}
use Rattle.wt_value.specs.Truths as truths_of
use Rattle.wt_value.specs.Truths.{not_of, or_of, equality}
use Rattle.wt_pred.specs.declared.tree.Cmp.{Cmp}
use Rattle.wt_pred.specs.declared.tree.Cmp.TheVariants.{Eq, Ne, Lt, Le, Gt, Ge}
use Rattle.wt_pred.specs.declared.tree.Operand.{Operand}
use Rattle.wt_pred.specs.declared.tree.Operand.TheVariants.{Column, Constant}
use Rattle.wt_pred.specs.Tree.{PredTree, PredTrees, compare, is_null, is_not_null, in_list, all_of, any_of, negated, no_preds, pred_then}
use Rattle.wt_value.specs.Values.{value_at}
use Rattle.wt_pred.specs.Meaning.{truth, truths, value_of, less, comparison, least, greatest}
use Rattle.wt_pred.specs.Nulls.{is_column, never_true, never_false, nevers_true, nevers_false, every, some_of, RejectsNull}
use Rattle.wt_pred.proofs.Connectives.{and_not_true_left, and_not_true_right, and_not_false, or_not_true, or_not_false_left, or_not_false_right, not_not_true, not_not_false}

less_null : (a : Value) → less a Null ≡ Unknown
less_null Null = refl
less_null (Int x) = refl
less_null (Text s) = refl

null_less : (b : Value) → less Null b ≡ Unknown
null_less Null = refl
null_less (Int y) = refl
null_less (Text t) = refl

equality_null : (a : Value) → equality a Null ≡ Unknown
equality_null Null = refl
equality_null (Int x) = refl
equality_null (Text s) = refl

null_equality : (b : Value) → equality Null b ≡ Unknown
null_equality Null = refl
null_equality (Int y) = refl
null_equality (Text t) = refl

-- a comparison with NULL is Unknown
pub null_left : (cmp : Cmp) (b : Value) → comparison cmp Null b ≡ Unknown
null_left Eq b = null_equality b
null_left Ne b = ap not_of (null_equality b)
null_left Lt b = null_less b
null_left Le b = ap not_of (less_null b)
null_left Gt b = less_null b
null_left Ge b = ap not_of (null_less b)

pub null_right : (cmp : Cmp) (a : Value) → comparison cmp a Null ≡ Unknown
null_right Eq a = equality_null a
null_right Ne a = ap not_of (equality_null a)
null_right Lt a = less_null a
null_right Le a = ap not_of (null_less a)
null_right Gt a = null_less a
null_right Ge a = ap not_of (less_null a)

-- NULL in a list is never found there
pub null_not_found : (vs : List Value) → greatest (map (equality Null) vs) ≢ True
null_not_found [] e = cc
null_not_found (v ∷ vs) e = or_not_true (equality Null v) (greatest (map (equality Null) vs)) (absurd_of (null_equality v)) (null_not_found vs) e
  where
    absurd_of : {t : Truth} → t ≡ Unknown → t ≢ True
    absurd_of u e = cc

-- nor is it told to be not there, where there is a constant
pub null_not_missed : (v : Value) (vs : List Value) → greatest (map (equality Null) (v ∷ vs)) ≢ False
null_not_missed v vs = or_not_false_left (equality Null v) (greatest (map (equality Null) vs)) (absurd_of (null_equality v))
  where
    absurd_of : {t : Truth} → t ≡ Unknown → t ≢ False
    absurd_of u e = cc

one_of : (a b : Bool) → (a || b) ≡ true → (a ≡ true) ⊎ (b ≡ true)
one_of true b h = inl refl
one_of false b h = inr h

both_of : (a b : Bool) → (a && b) ≡ true → (a ≡ true) × (b ≡ true)
both_of true b h = (refl, h)
both_of false b h = absurd (false≢true h)

module _ (pos : ℕ) (row : List Value) (null : value_at row pos ≡ Null) where
  null_at : (column : ℕ) → nat_eq pos column ≡ true → value_at row column ≡ Null
  null_at column h = subst (λ k. value_at row k ≡ Null) (eqb-true pos column h) null

  null_operand : (o : Operand) → is_column pos o ≡ true → value_of row o ≡ Null
  null_operand (Column column) h = null_at column h
  null_operand (Constant value) h = absurd (false≢true h)

  unknown_comparison : (cmp : Cmp) (a b : Operand) → (is_column pos a || is_column pos b) ≡ true → comparison cmp (value_of row a) (value_of row b) ≡ Unknown
  unknown_comparison cmp a b h =
      elim (one_of (is_column pos a) (is_column pos b) h) [
        | inl k ↦ ap (λ v. comparison cmp v (value_of row b)) (null_operand a k) ∙ null_left cmp (value_of row b)
        | inr k ↦ ap (comparison cmp (value_of row a)) (null_operand b k) ∙ null_right cmp (value_of row a)
      ]

  mutual
    pub not_true : (p : PredTree) → never_true pos p ≡ true → truth p row ≢ True
    not_true (compare cmp a b) h e = let u = unknown_comparison cmp a b h in cc
    not_true (is_null column) h e = false≢true h
    not_true (is_not_null column) h e = let n : not_of (truths_of.is_null (value_at row column)) ≡ False = ap (λ v. not_of (truths_of.is_null v)) (null_at column h) in cc
    not_true (in_list column values) h e = subst (λ v. greatest (map (equality v) values) ≢ True) (sym (null_at column h)) (null_not_found values) e
    not_true (all_of parts) h e = some_not_true parts h e
    not_true (any_of parts) h e = each_not_true parts h e
    not_true (negated inner) h e = not_not_true (truth inner row) (not_false inner h) e

    pub not_false : (p : PredTree) → never_false pos p ≡ true → truth p row ≢ False
    not_false (compare cmp a b) h e = let u = unknown_comparison cmp a b h in cc
    not_false (is_null column) h e = let n : truths_of.is_null (value_at row column) ≡ True = ap truths_of.is_null (null_at column h) in cc
    not_false (is_not_null column) h e = false≢true h
    not_false (in_list column []) h e = false≢true h
    not_false (in_list column (v ∷ vs)) h e = subst (λ w. greatest (map (equality w) (v ∷ vs)) ≢ False) (sym (null_at column h)) (null_not_missed v vs) e
    not_false (all_of parts) h e = each_not_false parts h e
    not_false (any_of parts) h e = some_not_false parts h e
    not_false (negated inner) h e = not_not_false (truth inner row) (not_true inner h) e

    some_not_true : (ps : PredTrees) → some_of (nevers_true pos ps) ≡ true → least (truths ps row) ≢ True
    some_not_true no_preds h e = false≢true h
    some_not_true (pred_then p rest) h e =
        elim (one_of (never_true pos p) (some_of (nevers_true pos rest)) h) [
          | inl k ↦ and_not_true_left (truth p row) (least (truths rest row)) (not_true p k) e
          | inr k ↦ and_not_true_right (truth p row) (least (truths rest row)) (some_not_true rest k) e
        ]

    each_not_true : (ps : PredTrees) → every (nevers_true pos ps) ≡ true → greatest (truths ps row) ≢ True
    each_not_true no_preds h e = cc
    each_not_true (pred_then p rest) h e =
        let b = both_of (never_true pos p) (every (nevers_true pos rest)) h in
        or_not_true (truth p row) (greatest (truths rest row)) (not_true p b.0) (each_not_true rest b.1) e

    each_not_false : (ps : PredTrees) → every (nevers_false pos ps) ≡ true → least (truths ps row) ≢ False
    each_not_false no_preds h e = cc
    each_not_false (pred_then p rest) h e =
        let b = both_of (never_false pos p) (every (nevers_false pos rest)) h in
        and_not_false (truth p row) (least (truths rest row)) (not_false p b.0) (each_not_false rest b.1) e

    some_not_false : (ps : PredTrees) → some_of (nevers_false pos ps) ≡ true → greatest (truths ps row) ≢ False
    some_not_false no_preds h e = false≢true h
    some_not_false (pred_then p rest) h e =
        elim (one_of (never_false pos p) (some_of (nevers_false pos rest)) h) [
          | inl k ↦ or_not_false_left (truth p row) (greatest (truths rest row)) (not_false p k) e
          | inr k ↦ or_not_false_right (truth p row) (greatest (truths rest row)) (some_not_false rest k) e
        ]

-- a predicate of such a form rejects NULL at the column
pub rejects : (pos : ℕ) (p : PredTree) → never_true pos p ≡ true → RejectsNull pos p
rejects pos p h row null = not_true pos row null p h
