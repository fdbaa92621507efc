-- What the walk over the uses of places says.
use Rattle.std.proofs.Common.{◌≡◌, ◌≢◌, ◌<◌, ◌+◌, ℕ, zero, suc, nat_eq, nat_lt, Bool, true, false, not, cond, List, [], ◌∷◌, ◌++◌, map, filter, length, Option, Some, None, refl, sym, ap, subst, ◌∙◌, arith, add-one}
use Rattle.std.specs.Prelude.{◌&&◌, ◌||◌}
use Rattle.std.proofs.lemmas.Bool.Decides.{nat_tests}
use Rattle.wt_bag.specs.Bags.{Each, distinct}
use Rattle.wt_bag.specs.Choices.{Apart, Has}
use Rattle.wt_bag.proofs.Counting.{filter-filter, filter-true}
use Rattle.wt_bag.proofs.EachLaws.{each_implies}
use Rattle.wt_bag.proofs.UniqueLists.{each_has}
use Rattle.wt_pred.specs.declared.tree.Operand.{Operand}
use Rattle.wt_pred.specs.declared.tree.Operand.TheVariants.{Column, Constant}
use Rattle.wt_pred.specs.Tree.{PredTree, PredTrees, compare, is_null, is_not_null, in_list, all_of, any_of, negated, no_preds, pred_then}
use Rattle.wt_pred.specs.Columns.{operand_columns, occurring, occurring_in, columns}
use Rattle.wt_pred.proofs.Using.{columns_there}
use Rattle.wt_plan.specs.Regular.{upto}
use Rattle.wt_plan.proofs.Upto.{upto_within}
use Rattle.wt_regularity.specs.Widths.{and_then}
use Rattle.wt_regularity.specs.Order.{stands_in, are_apart, after_column, after_operand, after, after_all}
use Rattle.wt_regularity.specs.Predicates.{is_number, uses_all}
use Rattle.wt_regularity.proofs.Tests.{both, make, is_not, lt_of, eq_of, eq_test}

-- ---- lists in which nothing stands twice

absent_sound : (c : ℕ) (cols : List ℕ) → stands_in c cols ≡ false → Each (λ d. c ≢ d) cols
absent_sound c [] e = tt
absent_sound c (d ∷ cols) e = here (nat_eq c d) refl e (absent_sound c cols)
  where
    here : (b : Bool) → nat_eq c d ≡ b → (b || stands_in c cols) ≡ false → (stands_in c cols ≡ false → Each (λ x. c ≢ x) cols) → (c ≢ d) × Each (λ x. c ≢ x) cols
    here true t e more = cc
    here false t e more = ((λ same. let bad : nat_eq c d ≡ true = eq_test c d same in cc), more e)

absent_full : (c : ℕ) (cols : List ℕ) → Each (λ d. c ≢ d) cols → stands_in c cols ≡ false
absent_full c [] h = refl
absent_full c (d ∷ cols) h = here (nat_eq c d) refl (absent_full c cols h.1)
  where
    here : (b : Bool) → nat_eq c d ≡ b → stands_in c cols ≡ false → (b || stands_in c cols) ≡ false
    here true t rest = absurd (h.0 (eq_of c d t))
    here false t rest = rest

pub apart_sound : (cols : List ℕ) → are_apart cols ≡ true → Apart cols
apart_sound [] e = tt
apart_sound (c ∷ cols) e =
    let parts = both (not (stands_in c cols)) (are_apart cols) e in
    (absent_sound c cols (is_not (stands_in c cols) parts.0), apart_sound cols parts.1)

pub apart_full : (cols : List ℕ) → Apart cols → are_apart cols ≡ true
apart_full [] h = refl
apart_full (c ∷ cols) h = make (not (stands_in c cols)) (are_apart cols) (ap not (absent_full c cols h.0)) (apart_full cols h.1)

-- ---- the uses as a list

abbrev pub uses : ℕ → List ℕ → Option ℕ
uses n [] = Some n
uses n (c ∷ cs) = and_then (after_column c n) (λ m. uses m cs)

uses_append : (n : ℕ) (xs ys : List ℕ) → uses n (xs ++ ys) ≡ and_then (uses n xs) (λ m. uses m ys)
uses_append n [] ys = refl
uses_append n (c ∷ xs) ys = here (after_column c n) (λ m. uses_append m xs ys)
  where
    here : (o : Option ℕ) → ((m : ℕ) → uses m (xs ++ ys) ≡ and_then (uses m xs) (λ k. uses k ys)) → and_then o (λ m. uses m (xs ++ ys)) ≡ and_then (and_then o (λ m. uses m xs)) (λ m. uses m ys)
    here (Some m) more = more m
    here None more = refl

operand_uses : (o : Operand) (n : ℕ) → after_operand o n ≡ uses n (operand_columns o)
operand_uses (Column c) n = here (after_column c n)
  where
    here : (o : Option ℕ) → o ≡ and_then o (λ m. Some m)
    here (Some m) = refl
    here None = refl
operand_uses (Constant v) n = refl

one_use : (c n : ℕ) → after_column c n ≡ uses n (c ∷ [])
one_use c n = operand_uses (Column c) n

then_alike : (o o' : Option ℕ) (f g : ℕ → Option ℕ) → o ≡ o' → ((m : ℕ) → f m ≡ g m) → and_then o f ≡ and_then o' g
then_alike o o' f g e h = here o ∙ ap (λ z. and_then z g) e
  where
    here : (z : Option ℕ) → and_then z f ≡ and_then z g
    here (Some m) = h m
    here None = refl

mutual
  after_uses : (p : PredTree) (n : ℕ) → after p n ≡ uses n (occurring p)
  after_uses (compare cmp a b) n =
      then_alike (after_operand a n) (uses n (operand_columns a)) (after_operand b) (λ m. uses m (operand_columns b)) (operand_uses a n) (operand_uses b)
      ∙ sym (uses_append n (operand_columns a) (operand_columns b))
  after_uses (is_null c) n = one_use c n
  after_uses (is_not_null c) n = one_use c n
  after_uses (in_list c vs) n = one_use c n
  after_uses (all_of parts) n = after_all_uses parts n
  after_uses (any_of parts) n = after_all_uses parts n
  after_uses (negated inner) n = after_uses inner n

  after_all_uses : (ps : PredTrees) (n : ℕ) → after_all ps n ≡ uses n (occurring_in ps)
  after_all_uses no_preds n = refl
  after_all_uses (pred_then p rest) n =
      then_alike (after p n) (uses n (occurring p)) (after_all rest) (λ m. uses m (occurring_in rest)) (after_uses p n) (after_all_uses rest)
      ∙ sym (uses_append n (occurring p) (occurring_in rest))

-- ---- places in the order of first use

-- so many numbers from one on
abbrev from : ℕ → ℕ → List ℕ
from n zero = []
from n (suc k) = n ∷ from (suc n) k

from_suc : (n k : ℕ) → from (suc n) k ≡ map suc (from n k)
from_suc n zero = refl
from_suc n (suc k) = ap (λ (l : List ℕ). suc n ∷ l) (from_suc (suc n) k)

from_upto : (k : ℕ) → from 0 k ≡ upto k
from_upto zero = refl
from_upto (suc k) = ap (λ (l : List ℕ). 0 ∷ l) (from_suc 0 k ∙ ap (map suc) (from_upto k))

-- what is used for the first time, among the numbers from n on
abbrev keeps : ℕ → ℕ → Bool
keeps n c = not (nat_lt c n)

abbrev new : ℕ → List ℕ → List ℕ
new n cs = filter (keeps n) (distinct nat_eq cs)

low_test : (c n : ℕ) → c < n → (y : ℕ) → (keeps n y && not (nat_eq c y)) ≡ keeps n y
low_test c n h y = grind (arith, nat_tests)

same_test : (c n : ℕ) → c ≡ n → (y : ℕ) → (keeps n y && not (nat_eq c y)) ≡ keeps (n + 1) y
same_test c n h y = grind (arith, nat_tests)

new_low : (c n : ℕ) (cs : List ℕ) → c < n → new n (c ∷ cs) ≡ new n cs
new_low c n cs h =
    let gone : keeps n c ≡ false = grind (arith, nat_tests) in
    rw gone (filter-filter (λ y. not (nat_eq c y)) (keeps n) (keeps n) (low_test c n h) (distinct nat_eq cs))

new_same : (c n : ℕ) (cs : List ℕ) → c ≡ n → new n (c ∷ cs) ≡ c ∷ new (n + 1) cs
new_same c n cs h =
    let stays : keeps n c ≡ true = grind (arith, nat_tests) in
    rw stays (ap (λ (l : List ℕ). c ∷ l) (filter-filter (λ y. not (nat_eq c y)) (keeps n) (keeps (n + 1)) (same_test c n h) (distinct nat_eq cs)))

new_high : (c n : ℕ) (cs : List ℕ) → n < c → new n (c ∷ cs) ≡ c ∷ filter (keeps n) (filter (λ y. not (nat_eq c y)) (distinct nat_eq cs))
new_high c n cs h = let stays : keeps n c ≡ true = grind (arith, nat_tests) in rw stays refl

-- the three cases of one use
data Use (c n : ℕ) : Type 0 where
  low : c < n → after_column c n ≡ Some n → Use c n
  same : c ≡ n → after_column c n ≡ Some (c + 1) → Use c n
  high : n < c → after_column c n ≡ None → Use c n

use_of : (c n : ℕ) → Use c n
use_of c n = first (nat_lt c n) (nat_eq c n) refl refl
  where
    first : (b d : Bool) → nat_lt c n ≡ b → nat_eq c n ≡ d → Use c n
    first true d e f = low (lt_of c n e) (ap (λ t. cond t (Some n) (cond (nat_eq c n) (Some (c + 1)) None)) e)
    first false true e f = same (eq_of c n f) (ap (λ t. cond t (Some n) (cond (nat_eq c n) (Some (c + 1)) None)) e ∙ ap (λ t. cond t (Some (c + 1)) None) f)
    first false false e f =
        let more : n < c = grind (arith, nat_tests) in
        high more (ap (λ t. cond t (Some n) (cond (nat_eq c n) (Some (c + 1)) None)) e ∙ ap (λ t. cond t (Some (c + 1)) None) f)

uses_step : (c n : ℕ) (cs : List ℕ) (o : Option ℕ) → after_column c n ≡ o → uses n (c ∷ cs) ≡ and_then o (λ m. uses m cs)
uses_step c n cs o e = ap (λ z. and_then z (λ m. uses m cs)) e

uses_sound : (cs : List ℕ) (n m : ℕ) → uses n cs ≡ Some m → (k : ℕ) × (new n cs ≡ from n k) × (n + k ≡ m)
uses_sound [] n m e = let is : n ≡ m = cc in (zero, refl, omega (arith, is))
uses_sound (c ∷ cs) n m e = by (use_of c n) (uses_sound cs n m) (uses_sound cs (c + 1) m)
  where
    by : Use c n → (uses n cs ≡ Some m → (k : ℕ) × (new n cs ≡ from n k) × (n + k ≡ m)) → (uses (c + 1) cs ≡ Some m → (k : ℕ) × (new (c + 1) cs ≡ from (c + 1) k) × ((c + 1) + k ≡ m))
        → (k : ℕ) × (new n (c ∷ cs) ≡ from n k) × (n + k ≡ m)
    by (low h is) here next =
        let r = here (sym (uses_step c n cs (Some n) is) ∙ e) in
        (r.0, new_low c n cs h ∙ r.1, r.2)
    by (same h is) here next =
        let r = next (sym (uses_step c n cs (Some (c + 1)) is) ∙ e) in
        let rest : new (n + 1) cs ≡ from (suc n) r.0 = subst (λ z. new (z + 1) cs ≡ from (z + 1) r.0) h r.1 ∙ ap (λ z. from z r.0) (add-one n) in
        (suc r.0, new_same c n cs h ∙ (λ i. h i ∷ rest i), omega (arith, r.2, h))
    by (high h is) here next = let bad : None ≡ Some m = sym (uses_step c n cs None is) ∙ e in cc

uses_full : (cs : List ℕ) (n k : ℕ) → new n cs ≡ from n k → uses n cs ≡ Some (n + k)
uses_full [] n zero e = ap Some (omega arith)
uses_full [] n (suc k) e = cc
uses_full (c ∷ cs) n k e = by (use_of c n) k e (uses_full cs n) (uses_full cs (n + 1))
  where
    by : Use c n → (k : ℕ) → new n (c ∷ cs) ≡ from n k → ((j : ℕ) → new n cs ≡ from n j → uses n cs ≡ Some (n + j)) → ((j : ℕ) → new (n + 1) cs ≡ from (n + 1) j → uses (n + 1) cs ≡ Some ((n + 1) + j))
        → uses n (c ∷ cs) ≡ Some (n + k)
    by (low h is) k e here next = uses_step c n cs (Some n) is ∙ here k (sym (new_low c n cs h) ∙ e)
    by (same h is) zero e here next = let bad : c ∷ new (n + 1) cs ≡ [] = sym (new_same c n cs h) ∙ e in cc
    by (same h is) (suc k) e here next =
        let two : c ∷ new (n + 1) cs ≡ n ∷ from (suc n) k = sym (new_same c n cs h) ∙ e in
        let tail : new (n + 1) cs ≡ from (suc n) k = cc in
        let rest : new (n + 1) cs ≡ from (n + 1) k = tail ∙ ap (λ z. from z k) (sym (add-one n)) in
        uses_step c n cs (Some (c + 1)) is ∙ ap (λ z. uses (z + 1) cs) h ∙ next k rest ∙ ap Some (omega arith)
    by (high h is) zero e here next = let bad : c ∷ filter (keeps n) (filter (λ y. not (nat_eq c y)) (distinct nat_eq cs)) ≡ [] = sym (new_high c n cs h) ∙ e in cc
    by (high h is) (suc k) e here next =
        let two : c ∷ filter (keeps n) (filter (λ y. not (nat_eq c y)) (distinct nat_eq cs)) ≡ n ∷ from (suc n) k = sym (new_high c n cs h) ∙ e in
        let one : c ≡ n = cc in
        absurd (omega (arith, h, one))

new_all : (cs : List ℕ) → new 0 cs ≡ distinct nat_eq cs
new_all cs = filter-true (keeps 0) (λ y. grind (arith, nat_tests)) (distinct nat_eq cs)

pub order_sound : (p : PredTree) (cols : List ℕ) → uses_all p cols ≡ true → columns p ≡ upto (length cols)
order_sound p cols e = by (after p 0) refl e
  where
    by : (o : Option ℕ) → after p 0 ≡ o → is_number o (length cols) ≡ true → columns p ≡ upto (length cols)
    by (Some m) is e =
        let r = uses_sound (occurring p) 0 m (sym (after_uses p 0) ∙ is) in
        let size : r.0 ≡ length cols = omega (arith, r.2, eq_of m (length cols) e) in
        sym (new_all (occurring p)) ∙ r.1 ∙ ap (from 0) size ∙ from_upto (length cols)
    by None is e = cc

pub order_full : (p : PredTree) (cols : List ℕ) → columns p ≡ upto (length cols) → uses_all p cols ≡ true
order_full p cols e =
    let is : after p 0 ≡ Some (0 + length cols) = after_uses p 0 ∙ uses_full (occurring p) 0 (length cols) (new_all (occurring p) ∙ e ∙ sym (from_upto (length cols))) in
    ap (λ o. is_number o (length cols)) is ∙ eq_test (0 + length cols) (length cols) (omega arith)

-- a predicate that uses the places of a list in order uses no other
pub order_within : (p : PredTree) (n : ℕ) → columns p ≡ upto n → Each (λ k. k < n) (occurring p)
order_within p n e =
    each_implies (λ c. Has c (upto n)) (λ c. c < n) (occurring p) (λ c h. each_has (λ k. k < n) c (upto n) (upto_within n) h)
    (columns_there [] (upto n) p (sym e))
