-- Names and places: a value by a name is the value at its place.
use Rattle.std.proofs.Common.{◌≡◌, ℕ, zero, suc, Bool, true, false, cond, List, [], ◌∷◌, ◌++◌, map, length, filter, refl, sym, ap, ◌∙◌, arith}
use Rattle.std.specs.Prelude.{flat_map}
use Rattle.wt_value.specs.declared.value.Value.{Value}
use Rattle.wt_value.specs.Truths as truths_of
use Rattle.wt_value.specs.Truths.{equality, not_of}
use Rattle.wt_value.specs.Values.{Tuple, value_at, pick}
use Rattle.wt_ast.specs.Tree.{CondTree, CondTrees, compare, is_null, is_not_null, in_list, in_query, all_of, any_of, negated, no_conds, cond_then}
use Rattle.wt_query_rows.specs.declared.scope.ScopeColumn.{ScopeColumn}
use Rattle.wt_query_rows.specs.Scopes.{fits, is_of}
use Rattle.wt_query_rows.specs.Rows.{Cell, Named, named, values, value_of, scalar_of, item_values, chosen, sign_of, truth_at, truths_at}
use Rattle.wt_plan.specs.Regular.{upto}
use Rattle.wt_query_plan.specs.Building.{place_of, operand_of, pred_of, preds_of, places_where, item_places}
use Rattle.wt_pred.specs.Meaning.{truth, truths, comparison, least, greatest}
use Rattle.wt_pred.specs.Meaning as meanings
use Rattle.wt_ast.specs.declared.tree.ColumnName.{ColumnName}
use Rattle.wt_ast.specs.declared.tree.Item.{Item}
use Rattle.wt_ast.specs.declared.tree.Item.TheVariants.{Star, AllOf, Column}
use Rattle.wt_ast.specs.declared.tree.Scalar.{Scalar}
use Rattle.wt_ast.specs.declared.tree.Scalar.TheVariants as scalars
use Rattle.wt_plan.proofs.Upto.{pick_suc, pick_upto}

pub no_suc : {n : ℕ} → zero ≡ suc n → ⊥
no_suc e = omega arith

pub suc_zero : {n : ℕ} → suc n ≡ zero → ⊥
suc_zero e = omega arith

pub one_less : (m n : ℕ) → suc m ≡ suc n → m ≡ n
one_less m n e = omega arith

pub value_named : (scope : List ScopeColumn) (row : Tuple) (c : ColumnName) → length row ≡ length scope → value_of (named scope row) c ≡ value_at row (place_of scope c)
value_named [] [] c e = refl
value_named [] (v ∷ row) c e = absurd (suc_zero e)
value_named (s ∷ scope) [] c e = absurd (no_suc e)
value_named (s ∷ scope) (v ∷ row) c e = here (fits c s) (value_named scope row c (one_less _ _ e))
  where
    here : (b : Bool) → value_of (named scope row) c ≡ value_at row (place_of scope c) → cond b v (value_of (named scope row) c) ≡ value_at (v ∷ row) (cond b 0 (suc (place_of scope c)))
    here true h = refl
    here false h = h

module _ (scope : List ScopeColumn) (row : Tuple) (e : length row ≡ length scope) where
  pub scalar_named : (s : Scalar) → scalar_of (named scope row) s ≡ meanings.value_of row (operand_of scope s)
  scalar_named (scalars.Column c) = value_named scope row c e
  scalar_named (scalars.Literal v at) = refl

  mutual
    pub truth_named : (c : CondTree) → truth_at (named scope row) c ≡ truth (pred_of scope c) row
    truth_named (compare at sign a b word_at) = λ i. comparison (sign_of sign) (scalar_named a i) (scalar_named b i)
    truth_named (is_null at c) = ap truths_of.is_null (value_named scope row c e)
    truth_named (is_not_null at c) = ap (λ v. not_of (truths_of.is_null v)) (value_named scope row c e)
    truth_named (in_list at c vs word_at) = ap (λ v. greatest (map (equality v) vs)) (value_named scope row c e)
    truth_named (in_query at cs q word_at) = refl
    truth_named (all_of at cs) = ap least (truths_named cs)
    truth_named (any_of at cs) = ap greatest (truths_named cs)
    truth_named (negated at c) = ap not_of (truth_named c)

    pub truths_named : (cs : CondTrees) → truths_at (named scope row) cs ≡ truths (preds_of scope cs) row
    truths_named no_conds = refl
    truths_named (cond_then c cs) = λ i. truth_named c i ∷ truths_named cs i

  -- the values of several names
  pub values_named : (cs : List ColumnName) → map (value_of (named scope row)) cs ≡ map (value_at row) (map (place_of scope) cs)
  values_named [] = refl
  values_named (c ∷ cs) = λ i. value_named scope row c e i ∷ values_named cs i

pub values_of_named : (scope : List ScopeColumn) (row : Tuple) → length row ≡ length scope → values (named scope row) ≡ row
values_of_named [] [] e = refl
values_of_named [] (v ∷ row) e = absurd (suc_zero e)
values_of_named (s ∷ scope) [] e = absurd (no_suc e)
values_of_named (s ∷ scope) (v ∷ row) e = ap (λ l. v ∷ l) (values_of_named scope row (one_less _ _ e))

pub values_where : (alias : List ℕ) (scope : List ScopeColumn) (row : Tuple) → length row ≡ length scope
    → values (filter (λ (c : Cell). is_of alias c.column) (named scope row)) ≡ map (value_at row) (places_where (is_of alias) scope)
values_where alias [] [] e = refl
values_where alias [] (v ∷ row) e = absurd (suc_zero e)
values_where alias (s ∷ scope) [] e = absurd (no_suc e)
values_where alias (s ∷ scope) (v ∷ row) e = here (is_of alias s) (values_where alias scope row (one_less _ _ e) ∙ sym (pick_suc v row (places_where (is_of alias) scope)))
  where
    rest : Named
    rest = filter (λ (c : Cell). is_of alias c.column) (named scope row)

    more : List ℕ
    more = map suc (places_where (is_of alias) scope)

    here : (b : Bool) → values rest ≡ map (value_at (v ∷ row)) more
        → values (cond b (record { column = s; value = v } ∷ rest) rest) ≡ map (value_at (v ∷ row)) (cond b (0 ∷ more) more)
    here true h = ap (λ l. v ∷ l) h
    here false h = h

pub item_named : (scope : List ScopeColumn) (row : Tuple) → length row ≡ length scope → (i : Item) → item_values (named scope row) i ≡ map (value_at row) (item_places scope i)
item_named scope row e (Star at) = values_of_named scope row e ∙ sym (pick_upto row) ∙ ap (λ n. pick (upto n) row) e
item_named scope row e (AllOf alias at) = values_where alias scope row e
item_named scope row e (Column column output) = ap (λ v. v ∷ []) (value_named scope row column e)

pub map_append : {X Y : Type 0} (f : X → Y) (xs ys : List X) → map f (xs ++ ys) ≡ map f xs ++ map f ys
map_append f [] ys = refl
map_append f (x ∷ xs) ys = ap (λ l. f x ∷ l) (map_append f xs ys)

pub chosen_named : (scope : List ScopeColumn) (row : Tuple) → length row ≡ length scope → (items : List Item) → chosen items (named scope row) ≡ map (value_at row) (flat_map (item_places scope) items)
chosen_named scope row e [] = refl
chosen_named scope row e (i ∷ items) =
    ap (λ l. l ++ chosen items (named scope row)) (item_named scope row e i)
    ∙ ap (λ l. map (value_at row) (item_places scope i) ++ l) (chosen_named scope row e items)
    ∙ sym (map_append (value_at row) (item_places scope i) (flat_map (item_places scope) items))

-- the names of two operands
pub named_append : (h k : List ScopeColumn) (x y : Tuple) → length x ≡ length h → named (h ++ k) (x ++ y) ≡ named h x ++ named k y
named_append [] k [] y e = refl
named_append [] k (v ∷ x) y e = absurd (suc_zero e)
named_append (s ∷ h) k [] y e = absurd (no_suc e)
named_append (s ∷ h) k (v ∷ x) y e = ap (λ l. record { column = s; value = v } ∷ l) (named_append h k x y (one_less _ _ e))
