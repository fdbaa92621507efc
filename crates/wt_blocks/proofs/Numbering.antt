-- A predicate over a list of places, its places exchanged for the columns of the list and back.
use Rattle.std.proofs.Common.{◌≡◌, ◌≢◌, ℕ, zero, suc, ◌<◌, nat_eq, Bool, true, false, List, [], ◌∷◌, ◌++◌, map, length, get_or, refl, sym, ap, ◌∙◌, arith, eq-eqb}
use Rattle.std.proofs.lemmas.List.{get_or-map}
use Rattle.std.proofs.lemmas.List.Sums.{position_or_len_is}
use borrow.Author.Tests.{eqb-true}
use Rattle.wt_bag.specs.Bags.{Each, distinct}
use Rattle.wt_bag.specs.Choices.{Apart}
use Rattle.wt_bag.proofs.BagLaws.{distinct-map}
use Rattle.wt_bag.proofs.EachLaws.{each_append_left, each_append_right, each_implies}
use Rattle.wt_pred.specs.declared.tree.Operand.{Operand}
use Rattle.wt_pred.specs.declared.tree.Operand.TheVariants.{Column, Constant}
use Rattle.wt_pred.specs.Tree.{PredTree, PredTrees, compare, is_null, is_not_null, in_list, all_of, any_of, negated, no_preds, pred_then}
use Rattle.wt_pred.specs.Columns.{operand_columns, occurring, occurring_in, columns, operand_renumbered, renumbered, all_renumbered, place_in}
use Rattle.wt_plan.specs.Regular.{upto}
use Rattle.wt_plan.proofs.Upto.{length_upto}
use Rattle.wt_query_plan.proofs.Lookup.{map_append}
use Rattle.wt_query_plan.specs.Building.{at_place}
use Rattle.wt_blocks.proofs.Naming.{each_at}

-- ---- renumbering twice, and by what changes nothing

module _ (f g h : ℕ → ℕ) where
  abbrev pub Together : ℕ → Type 0
  Together k = g (f k) ≡ h k

  operand_twice : (o : Operand) → Each Together (operand_columns o) → operand_renumbered g (operand_renumbered f o) ≡ operand_renumbered h o
  operand_twice (Column k) e = ap Column e.0
  operand_twice (Constant v) e = refl

  mutual
    pub renumbered_twice : (p : PredTree) → Each Together (occurring p) → renumbered g (renumbered f p) ≡ renumbered h p
    renumbered_twice (compare c a b) e =
        λ i. compare c (operand_twice a (each_append_left Together (operand_columns a) (operand_columns b) e) i) (operand_twice b (each_append_right Together (operand_columns a) (operand_columns b) e) i)
    renumbered_twice (is_null k) e = ap is_null e.0
    renumbered_twice (is_not_null k) e = ap is_not_null e.0
    renumbered_twice (in_list k vs) e = ap (λ n. in_list n vs) e.0
    renumbered_twice (all_of ps) e = ap all_of (all_twice ps e)
    renumbered_twice (any_of ps) e = ap any_of (all_twice ps e)
    renumbered_twice (negated p) e = ap negated (renumbered_twice p e)

    all_twice : (ps : PredTrees) → Each Together (occurring_in ps) → all_renumbered g (all_renumbered f ps) ≡ all_renumbered h ps
    all_twice no_preds e = refl
    all_twice (pred_then p ps) e =
        λ i. pred_then (renumbered_twice p (each_append_left Together (occurring p) (occurring_in ps) e) i) (all_twice ps (each_append_right Together (occurring p) (occurring_in ps) e) i)

module _ (f : ℕ → ℕ) where
  operand_still : (o : Operand) → Each (λ k. f k ≡ k) (operand_columns o) → operand_renumbered f o ≡ o
  operand_still (Column k) e = ap Column e.0
  operand_still (Constant v) e = refl

  mutual
    pub renumbered_still : (p : PredTree) → Each (λ k. f k ≡ k) (occurring p) → renumbered f p ≡ p
    renumbered_still (compare c a b) e =
        λ i. compare c (operand_still a (each_append_left (λ k. f k ≡ k) (operand_columns a) (operand_columns b) e) i) (operand_still b (each_append_right (λ k. f k ≡ k) (operand_columns a) (operand_columns b) e) i)
    renumbered_still (is_null k) e = ap is_null e.0
    renumbered_still (is_not_null k) e = ap is_not_null e.0
    renumbered_still (in_list k vs) e = ap (λ n. in_list n vs) e.0
    renumbered_still (all_of ps) e = ap all_of (all_still ps e)
    renumbered_still (any_of ps) e = ap any_of (all_still ps e)
    renumbered_still (negated p) e = ap negated (renumbered_still p e)

    all_still : (ps : PredTrees) → Each (λ k. f k ≡ k) (occurring_in ps) → all_renumbered f ps ≡ ps
    all_still no_preds e = refl
    all_still (pred_then p ps) e =
        λ i. pred_then (renumbered_still p (each_append_left (λ k. f k ≡ k) (occurring p) (occurring_in ps) e) i) (all_still ps (each_append_right (λ k. f k ≡ k) (occurring p) (occurring_in ps) e) i)

-- the columns that it names then
module _ (f : ℕ → ℕ) where
  operand_numbers : (o : Operand) → operand_columns (operand_renumbered f o) ≡ map f (operand_columns o)
  operand_numbers (Column k) = refl
  operand_numbers (Constant v) = refl

  mutual
    pub numbers : (p : PredTree) → occurring (renumbered f p) ≡ map f (occurring p)
    numbers (compare c a b) = (λ i. operand_numbers a i ++ operand_numbers b i) ∙ sym (map_append f (operand_columns a) (operand_columns b))
    numbers (is_null k) = refl
    numbers (is_not_null k) = refl
    numbers (in_list k vs) = refl
    numbers (all_of ps) = numbers_in ps
    numbers (any_of ps) = numbers_in ps
    numbers (negated p) = numbers p

    numbers_in : (ps : PredTrees) → occurring_in (all_renumbered f ps) ≡ map f (occurring_in ps)
    numbers_in no_preds = refl
    numbers_in (pred_then p ps) = (λ i. numbers p i ++ numbers_in ps i) ∙ sym (map_append f (occurring p) (occurring_in ps))

-- ---- places in a list without a number twice

apart_at : (xs : List ℕ) → Apart xs → (i j : ℕ) → i < j → j < length xs → get_or xs i 0 ≢ get_or xs j 0
apart_at [] h i j l m = absurd (let bad : ⊥ = omega (arith, m) in bad)
apart_at (x ∷ xs) h zero zero l m = absurd (let bad : ⊥ = omega (arith, l) in bad)
apart_at (x ∷ xs) h (suc i) zero l m = absurd (let bad : ⊥ = omega (arith, l) in bad)
apart_at (x ∷ xs) h zero (suc j) l m = each_at (λ y. x ≢ y) xs h.0 j 0 (omega (arith, m))
apart_at (x ∷ xs) h (suc i) (suc j) l m = apart_at xs h.1 i j (omega (arith, l)) (omega (arith, m))

not_equal : (x y : ℕ) → x ≢ y → nat_eq x y ≡ false
not_equal x y d = by (nat_eq x y) refl
  where
    by : (b : Bool) → nat_eq x y ≡ b → b ≡ false
    by false e = refl
    by true e = absurd (d (eqb-true x y e))

pub place_of_number : (cols : List ℕ) → Apart cols → (k : ℕ) → k < length cols → place_in cols (get_or cols k 0) ≡ k
place_of_number cols h k l =
    position_or_len_is (nat_eq (get_or cols k 0)) cols k 0 (omega (arith, l))
    (λ j m. not_equal (get_or cols k 0) (get_or cols j 0) (λ e. apart_at cols h j k m l (sym e)))
    (λ m. eq-eqb (get_or cols k 0) (get_or cols k 0) refl)

same_number : (cols : List ℕ) → Apart cols → (i j : ℕ) → i < length cols → j < length cols → nat_eq (get_or cols i 0) (get_or cols j 0) ≡ nat_eq i j
same_number cols h i j l m = here (nat_eq i j) (nat_eq (get_or cols i 0) (get_or cols j 0)) refl refl
  where
    here : (b c : Bool) → nat_eq i j ≡ b → nat_eq (get_or cols i 0) (get_or cols j 0) ≡ c → c ≡ b
    here true true e f = refl
    here false false e f = refl
    here true false e f = sym f ∙ eq-eqb (get_or cols i 0) (get_or cols j 0) (ap (λ k. get_or cols k 0) (eqb-true i j e))
    here false true e f =
        let same : i ≡ j = sym (place_of_number cols h i l) ∙ ap (place_in cols) (eqb-true (get_or cols i 0) (get_or cols j 0) f) ∙ place_of_number cols h j m in
        sym (eq-eqb i j same) ∙ e

pub gets_all : (cols : List ℕ) → map (λ k. get_or cols k 0) (upto (length cols)) ≡ cols
gets_all [] = refl
gets_all (x ∷ cols) = ap (λ l. x ∷ l) (later (upto (length cols)) ∙ gets_all cols)
  where
    later : (ks : List ℕ) → map (λ k. get_or (x ∷ cols) k 0) (map suc ks) ≡ map (λ k. get_or cols k 0) ks
    later [] = refl
    later (k ∷ ks) = ap (λ l. get_or cols k 0 ∷ l) (later ks)

pub get_upto : (w k : ℕ) (d : ℕ) → k < w → get_or (upto w) k d ≡ k
get_upto zero k d l = absurd (let bad : ⊥ = omega (arith, l) in bad)
get_upto (suc w) zero d l = refl
get_upto (suc w) (suc k) d l =
    let m : k < w = omega (arith, l) in
    let n : k < length (upto w) = omega (arith, m, length_upto w) in
    get_or-map suc (upto w) k d d n ∙ ap suc (get_upto w k d m)

pub places_upto : (w : ℕ) (cols : List ℕ) → Each (λ k. k < w) cols → map (at_place (upto w)) cols ≡ cols
places_upto w [] h = refl
places_upto w (k ∷ cols) h = λ i. get_upto w k (length (upto w)) h.0 i ∷ places_upto w cols h.1 i

-- ---- a predicate over the columns of a list, taken over its own columns again

module _ (cols : List ℕ) (apart : Apart cols) (q : PredTree) (there : Each (λ k. k < length cols) (occurring q)) (in_order : columns q ≡ upto (length cols)) where
  abbrev over : PredTree
  over = renumbered (λ k. get_or cols k 0) q

  pub columns_over : columns over ≡ cols
  columns_over =
      ap (distinct nat_eq) (numbers (λ k. get_or cols k 0) q)
      ∙ distinct-map nat_eq nat_eq (λ k. get_or cols k 0) (λ k. k < length cols) (λ x y l m. same_number cols apart x y l m) (occurring q) there
      ∙ ap (map (λ k. get_or cols k 0)) in_order
      ∙ gets_all cols

  pub taken_back : renumbered (place_in (columns over)) over ≡ q
  taken_back =
      ap (λ cs. renumbered (place_in cs) over) columns_over
      ∙ renumbered_twice (λ k. get_or cols k 0) (place_in cols) (λ k. k) q (each_implies (λ k. k < length cols) (λ k. place_in cols (get_or cols k 0) ≡ k) (occurring q) (λ k l. place_of_number cols apart k l) there)
      ∙ renumbered_still (λ k. k) q (all_still_there (occurring q))
    where
      all_still_there : (ks : List ℕ) → Each (λ k. k ≡ k) ks
      all_still_there [] = tt
      all_still_there (k ∷ ks) = (refl, all_still_there ks)

  -- it has a column, since the list has one
  pub some_over : cols ≢ [] → occurring over ≢ []
  some_over some e = some (sym columns_over ∙ ap (distinct nat_eq) e)
