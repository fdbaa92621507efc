-- First places in a list, and predicates that are renumbered by functions which agree on their columns.
use Rattle.std.proofs.Common.{◌≡◌, ℕ, ◌+◌, ◌<◌, nat_eq, Bool, true, false, not, cond, List, [], ◌∷◌, ◌++◌, length, take, get_or, Option, Some, None, is_some, IsSome, refl, sym, ap, subst, ◌∙◌, inl, inr, arith, add-one, length-take, take-suc, eq-eqb}
use Rattle.std.specs.List.{position_from}
use Rattle.std.specs.Option.{unwrap_or}
use Rattle.std.proofs.lemmas.Bool.{false≢true}
use Rattle.std.proofs.lemmas.Bool.Decides.{nat_tests}
use Rattle.indexmap.specs.IndexMap.{IndexMap, get}
use Rattle.wt_bag.specs.Bags.{Each}
use Rattle.wt_bag.specs.Choices.{Has}
use Rattle.wt_bag.proofs.EachLaws.{each_append_left, each_append_right, each_implies}
use Rattle.wt_pred.specs.declared.tree.Operand.{Operand}
use Rattle.wt_pred.specs.declared.tree.Operand.TheVariants.{Column, Constant}
use Rattle.wt_pred.specs.Tree.{PredTree, PredTrees, compare, is_null, is_not_null, in_list, all_of, any_of, negated, no_preds, pred_then}
use Rattle.wt_pred.specs.Columns.{operand_columns, occurring, occurring_in, operand_renumbered, renumbered, all_renumbered, place_in}
use Rattle.wt_pred.specs.Places.{HasAll, number_by}

-- the first place of a column that is there
found_from : (column : ℕ) (cols : List ℕ) (i : ℕ) → Has column cols → position_from (nat_eq column) i cols ≡ Some (i + place_in cols column)
found_from column [] i h = absurd h
found_from column (x ∷ cols) i h = here (nat_eq column x) refl h (found_from column cols (i + 1))
  where
    here : (b : Bool) → nat_eq column x ≡ b → Has column (x ∷ cols) → (Has column cols → position_from (nat_eq column) (i + 1) cols ≡ Some ((i + 1) + place_in cols column))
        → cond b (Some i) (position_from (nat_eq column) (i + 1) cols) ≡ Some (i + cond (not b) (1 + place_in cols column) 0)
    here true e h rest = ap Some (omega arith)
    here false e (inl same) rest = absurd (false≢true (sym e ∙ eq-eqb column x same))
    here false e (inr h) rest = rest h ∙ ap Some (omega arith)

pub found : (column : ℕ) (cols : List ℕ) → Has column cols → position_from (nat_eq column) 0 cols ≡ Some (place_in cols column)
found column cols h = found_from column cols 0 h ∙ ap Some (omega arith)

-- one more element at the end is found where none was before
found_push : (test : ℕ → Bool) (cols : List ℕ) (x i : ℕ)
    → position_from test i (cols ++ x ∷ []) ≡ cond (is_some (position_from test i cols)) (position_from test i cols) (cond (test x) (Some (i + length cols)) None)
found_push test [] x i = ap (λ k. cond (test x) (Some k) None) (omega arith)
found_push test (y ∷ cols) x i = here (test y) (found_push test cols x (i + 1))
  where
    here : (b : Bool) → position_from test (i + 1) (cols ++ x ∷ []) ≡ cond (is_some (position_from test (i + 1) cols)) (position_from test (i + 1) cols) (cond (test x) (Some ((i + 1) + length cols)) None)
        → cond b (Some i) (position_from test (i + 1) (cols ++ x ∷ [])) ≡ cond (is_some (cond b (Some i) (position_from test (i + 1) cols))) (cond b (Some i) (position_from test (i + 1) cols)) (cond (test x) (Some (i + length (y ∷ cols))) None)
    here true e = refl
    here false e = e ∙ ap (λ k. cond (is_some (position_from test (i + 1) cols)) (position_from test (i + 1) cols) (cond (test x) (Some k) None)) (omega arith)

nat_eq-sym : (x y : ℕ) → nat_eq x y ≡ nat_eq y x
nat_eq-sym x y = grind (arith, nat_tests)

-- one more column is noted where it has no place yet
pub place_next : (items : List ℕ) (i k : ℕ) (old new : Option ℕ) → i < length items → old ≡ position_from (nat_eq k) 0 (take i items)
    → new ≡ cond (nat_eq (get_or items i 0) k) (cond (is_some old) old (Some i)) old → new ≡ position_from (nat_eq k) 0 (take (i + 1) items)
place_next items i k old new within was is =
    let x = get_or items i 0 in
    let count : 0 + length (take i items) ≡ i = omega (arith, length-take i items) in
    let split : take (i + 1) items ≡ take i items ++ x ∷ [] = rw add-one (take-suc items i 0 within) in
    is ∙ by_old old (nat_eq x k)
    ∙ ap (λ b. cond (is_some old) old (cond b (Some i) None)) (nat_eq-sym x k)
    ∙ ap (λ o. cond (is_some o) o (cond (nat_eq k x) (Some i) None)) was
    ∙ ap (λ n. cond (is_some (position_from (nat_eq k) 0 (take i items))) (position_from (nat_eq k) 0 (take i items)) (cond (nat_eq k x) (Some n) None)) (sym count)
    ∙ sym (found_push (nat_eq k) (take i items) x 0)
    ∙ ap (position_from (nat_eq k) 0) (sym split)
  where
    by_old : (o : Option ℕ) (b : Bool) → cond b (cond (is_some o) o (Some i)) o ≡ cond (is_some o) o (cond b (Some i) None)
    by_old None b = refl
    by_old (Some n) true = refl
    by_old (Some n) false = refl

-- functions that agree on the columns renumber alike
operand_alike : (f g : ℕ → ℕ) (o : Operand) → Each (λ c. f c ≡ g c) (operand_columns o) → operand_renumbered f o ≡ operand_renumbered g o
operand_alike f g (Column column) h = ap Column h.0
operand_alike f g (Constant value) h = refl

module _ (f g : ℕ → ℕ) where
  mutual
    pub renumbered_alike : (p : PredTree) → Each (λ c. f c ≡ g c) (occurring p) → renumbered f p ≡ renumbered g p
    renumbered_alike (compare cmp a b) h =
        λ i. compare cmp (operand_alike f g a (each_append_left (λ c. f c ≡ g c) (operand_columns a) (operand_columns b) h) i)
        (operand_alike f g b (each_append_right (λ c. f c ≡ g c) (operand_columns a) (operand_columns b) h) i)
    renumbered_alike (is_null column) h = ap is_null h.0
    renumbered_alike (is_not_null column) h = ap is_not_null h.0
    renumbered_alike (in_list column values) h = ap (λ c. in_list c values) h.0
    renumbered_alike (all_of parts) h = ap all_of (all_renumbered_alike parts h)
    renumbered_alike (any_of parts) h = ap any_of (all_renumbered_alike parts h)
    renumbered_alike (negated inner) h = ap negated (renumbered_alike inner h)

    all_renumbered_alike : (ps : PredTrees) → Each (λ c. f c ≡ g c) (occurring_in ps) → all_renumbered f ps ≡ all_renumbered g ps
    all_renumbered_alike no_preds h = refl
    all_renumbered_alike (pred_then p rest) h =
        λ i. pred_then (renumbered_alike p (each_append_left (λ c. f c ≡ g c) (occurring p) (occurring_in rest) h) i)
        (all_renumbered_alike rest (each_append_right (λ c. f c ≡ g c) (occurring p) (occurring_in rest) h) i)

some_is : {X : Type 0} {o : Option X} {x : X} → o ≡ Some x → IsSome o
some_is e = subst IsSome (sym e) refl

module _ {S : Type 0} (places : IndexMap ℕ ℕ S) (cols : List ℕ) (first : (c : ℕ) → get nat_eq places c ≡ position_from (nat_eq c) 0 cols) where
  -- a map of the first places has the columns that are there
  pub has_all : (used : List ℕ) → Each (λ c. Has c cols) used → HasAll places used
  has_all used h = each_implies (λ c. Has c cols) (λ c. IsSome (get nat_eq places c)) used (λ c k. some_is (first c ∙ found c cols k)) h

  -- and numbers them by those places
  pub numbers_places : (used : List ℕ) → Each (λ c. Has c cols) used → Each (λ c. number_by places c ≡ place_in cols c) used
  numbers_places used h =
      each_implies (λ c. Has c cols) (λ c. number_by places c ≡ place_in cols c) used (λ c k. ap (λ o. unwrap_or o 0) (first c ∙ found c cols k)) h
