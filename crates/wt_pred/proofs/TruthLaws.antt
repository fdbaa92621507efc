-- The truth of a predicate rests on its columns alone, and stays where they are renumbered.
use Rattle.std.proofs.Common.{◌≡◌, ℕ, ◌+◌, nat_eq, Bool, true, false, not, cond, List, [], ◌∷◌, map, get_or, refl, sym, ap, ◌∙◌, inl, inr, arith, eq-eqb}
use Rattle.std.specs.Prelude.{suc}
use Rattle.std.proofs.lemmas.Bool.{false≢true}
use borrow.Author.Tests.{eqb-true}
use Rattle.wt_bag.specs.Bags.{Each}
use Rattle.wt_bag.specs.Choices.{Has}
use Rattle.wt_bag.proofs.EachLaws.{each_append_left, each_append_right, each_implies}
use Rattle.wt_bag.proofs.UniqueLists.{each_has}
use Rattle.wt_value.specs.declared.value.Value.{Value}
use Rattle.wt_value.specs.declared.value.Value.TheVariants.{Null}
use Rattle.wt_value.specs.Truths as truths_of
use Rattle.wt_value.specs.Truths.{not_of, equality}
use Rattle.wt_pred.specs.declared.tree.Operand.{Operand}
use Rattle.wt_pred.specs.declared.tree.Operand.TheVariants.{Column, Constant}
use Rattle.wt_pred.specs.Tree.{PredTree, PredTrees, compare, is_null, is_not_null, in_list, all_of, any_of, negated, no_preds, pred_then}
use Rattle.wt_value.specs.Values.{value_at}
use Rattle.wt_pred.specs.Meaning.{truth, truths, value_of, comparison, least, greatest}
use Rattle.wt_pred.specs.Columns.{operand_columns, occurring, occurring_in, columns, operand_renumbered, renumbered, all_renumbered, place_in}
use Rattle.wt_pred.specs.Laws.{DependsOn, KeepsTruth}
use Rattle.wt_pred.proofs.Using.{columns_there}

-- two rows, and numbers by which the one has at each column what the other has there
module _ (number : ℕ → ℕ) (row other : List Value) where
  same_value : (o : Operand) → Each (λ c. value_at other (number c) ≡ value_at row c) (operand_columns o) → value_of other (operand_renumbered number o) ≡ value_of row o
  same_value (Column column) h = h.0
  same_value (Constant value) h = refl

  mutual
    pub renumbered_truth : (p : PredTree) → Each (λ c. value_at other (number c) ≡ value_at row c) (occurring p) → truth (renumbered number p) other ≡ truth p row
    renumbered_truth (compare cmp a b) h =
        λ i. comparison cmp (same_value a (each_append_left (λ c. value_at other (number c) ≡ value_at row c) (operand_columns a) (operand_columns b) h) i)
        (same_value b (each_append_right (λ c. value_at other (number c) ≡ value_at row c) (operand_columns a) (operand_columns b) h) i)
    renumbered_truth (is_null column) h = ap truths_of.is_null h.0
    renumbered_truth (is_not_null column) h = ap (λ v. not_of (truths_of.is_null v)) h.0
    renumbered_truth (in_list column values) h = ap (λ v. greatest (map (equality v) values)) h.0
    renumbered_truth (all_of parts) h = ap least (renumbered_truths parts h)
    renumbered_truth (any_of parts) h = ap greatest (renumbered_truths parts h)
    renumbered_truth (negated inner) h = ap not_of (renumbered_truth inner h)

    renumbered_truths : (ps : PredTrees) → Each (λ c. value_at other (number c) ≡ value_at row c) (occurring_in ps) → truths (all_renumbered number ps) other ≡ truths ps row
    renumbered_truths no_preds h = refl
    renumbered_truths (pred_then p rest) h =
        λ i. renumbered_truth p (each_append_left (λ c. value_at other (number c) ≡ value_at row c) (occurring p) (occurring_in rest) h) i
        ∷ renumbered_truths rest (each_append_right (λ c. value_at other (number c) ≡ value_at row c) (occurring p) (occurring_in rest) h) i

-- numbers that stay leave the predicate as it is
operand_stays : (o : Operand) → operand_renumbered (λ c. c) o ≡ o
operand_stays (Column column) = refl
operand_stays (Constant value) = refl

mutual
  stays : (p : PredTree) → renumbered (λ c. c) p ≡ p
  stays (compare cmp a b) = λ i. compare cmp (operand_stays a i) (operand_stays b i)
  stays (is_null column) = refl
  stays (is_not_null column) = refl
  stays (in_list column values) = refl
  stays (all_of parts) = ap all_of (all_stay parts)
  stays (any_of parts) = ap any_of (all_stay parts)
  stays (negated inner) = ap negated (stays inner)

  all_stay : (ps : PredTrees) → all_renumbered (λ c. c) ps ≡ ps
  all_stay no_preds = refl
  all_stay (pred_then p rest) = λ i. pred_then (stays p i) (all_stay rest i)

-- the truth rests on the columns of the predicate
pub depends_on_columns : (p : PredTree) → DependsOn (columns p) p
depends_on_columns p row other h =
    let there = columns_there [] (columns p) p refl in
    let same : Each (λ c. value_at row c ≡ value_at other c) (occurring p) =
    each_implies (λ c. Has c (columns p)) (λ c. value_at row c ≡ value_at other c) (occurring p) (λ c k. each_has (λ d. value_at row d ≡ value_at other d) c (columns p) h k) there in
    ap (λ q. truth q row) (sym (stays p)) ∙ renumbered_truth (λ c. c) other row p same

-- the value at a column's place in the row of the columns alone
value_there : (row : List Value) (column : ℕ) (cols : List ℕ) → Has column cols → value_at (map (value_at row) cols) (place_in cols column) ≡ value_at row column
value_there row column [] h = absurd h
value_there row column (x ∷ cols) h = here (nat_eq column x) refl h (value_there row column cols)
  where
    here : (b : Bool) → nat_eq column x ≡ b → Has column (x ∷ cols) → (Has column cols → value_at (map (value_at row) cols) (place_in cols column) ≡ value_at row column)
        → get_or (value_at row x ∷ map (value_at row) cols) (cond (not b) (1 + place_in cols column) 0) Null ≡ value_at row column
    here true e h rest = ap (value_at row) (sym (eqb-true column x e))
    here false e (inl same) rest = absurd (false≢true (sym e ∙ eq-eqb column x same))
    here false e (inr h) rest =
        let next : 1 + place_in cols column ≡ suc (place_in cols column) = omega arith in
        ap (λ k. get_or (value_at row x ∷ map (value_at row) cols) k Null) next ∙ rest h

-- a predicate renumbered by first places has at the row of the columns the truth that it had
pub keeps_truth : (cols : List ℕ) (p : PredTree) → Each (λ c. Has c cols) (occurring p) → KeepsTruth cols p (renumbered (place_in cols) p)
keeps_truth cols p there row =
    renumbered_truth (place_in cols) row (map (value_at row) cols) p
    (each_implies (λ c. Has c cols) (λ c. value_at (map (value_at row) cols) (place_in cols c) ≡ value_at row c) (occurring p) (λ c h. value_there row c cols h) there)
