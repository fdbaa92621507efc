-- What a condition without a fault has: its columns are in scope, its comparisons of one kind.
use Rattle.std.proofs.Common.{◌≡◌, ◌≢◌, ℕ, zero, suc, ◌<◌, Bool, true, false, ◌&&◌, cond, List, [], ◌∷◌, map, length, filter, None, refl, arith}
use Rattle.std.specs.List.{list_any, list_all, AllByRecursion}
use Rattle.wt_bag.specs.Bags.{Each}
use Rattle.wt_bag.proofs.EachLaws.{each_append}
use Rattle.wt_value.specs.declared.value.Value.{Value}
use Rattle.wt_value.specs.declared.value.Value.TheVariants as values
use Rattle.wt_pred.specs.Columns.{occurring, occurring_in, operand_columns}
use Rattle.wt_schema.specs.declared.schema.ColKind.{ColKind}
use Rattle.wt_schema.specs.declared.schema.ColKind.TheVariants as kinds
use Rattle.wt_ast.specs.declared.tree.ColumnName.{ColumnName}
use Rattle.wt_ast.specs.declared.tree.Scalar.{Scalar}
use Rattle.wt_ast.specs.declared.tree.Scalar.TheVariants as scalars
use Rattle.wt_ast.specs.Lawful.{IsLiteral, IsScalar, IsCond, AreConds}
use Rattle.wt_ast.specs.Tree.{CondTree, CondTrees, compare, is_null, is_not_null, in_list, in_query, all_of, any_of, negated, no_conds, cond_then}
use Rattle.wt_plan.specs.Regular.{value_kind, operand_kind, IsConstant, ConstantOperand, Typed, AllTyped, HasConstants, AllConstants}
use Rattle.wt_query_rows.specs.declared.scope.ScopeColumn.{ScopeColumn}
use Rattle.wt_query_rows.specs.Scopes.{fits}
use Rattle.wt_query_plan.specs.declared.fault.BuildFault.{BuildFault}
use Rattle.wt_query_plan.specs.Building.{place_of, operand_of, pred_of, preds_of}
use Rattle.wt_query_plan.specs.Faults.{fault_if, name_fault, column_fault, columns_fault, scalar_fault, test_fault, tests_fault, kind_same, kinds_same, column_kind, is_empty}
use Rattle.wt_query_plan.proofs.Faultless.{neither}
use Rattle.wt_query_bounds.proofs.Bounded.{no_fault}

-- ---- columns in scope

found : (scope : List ScopeColumn) (c : ColumnName) → 0 < length (filter (fits c) scope) → place_of scope c < length scope
found [] c l = absurd (let bad : ⊥ = omega (arith, l) in bad)
found (s ∷ scope) c l = here (fits c s) l (found scope c)
  where
    here : (b : Bool) → 0 < length (cond b (s ∷ filter (fits c) scope) (filter (fits c) scope)) → (0 < length (filter (fits c) scope) → place_of scope c < length scope) → cond b 0 (suc (place_of scope c)) < length (s ∷ scope)
    here true l k = omega arith
    here false l k = let m = k l in omega (arith, m)

one_fits : (n : ℕ) (b : Bool) (at : ℕ) → name_fault n b at ≡ None → 0 < n
one_fits zero true at e = cc
one_fits zero false at e = cc
one_fits (suc n) b at e = omega arith

-- ---- kinds

pub one_kind : (k m : ColKind) → kind_same k m ≡ true → k ≡ m
one_kind kinds.Int kinds.Int e = refl
one_kind kinds.Text kinds.Text e = refl
one_kind kinds.Int kinds.Text e = cc
one_kind kinds.Text kinds.Int e = cc

both_true : (a b : Bool) → (a && b) ≡ true → (a ≡ true) × (b ≡ true)
both_true true b e = (refl, e)
both_true false b e = cc

pub same_kinds : (ks ms : List ColKind) → kinds_same ks ms ≡ true → ks ≡ ms
same_kinds [] [] e = refl
same_kinds [] (m ∷ ms) e = cc
same_kinds (k ∷ ks) [] e = cc
same_kinds (k ∷ ks) (m ∷ ms) e = let h = both_true (kind_same k m) (kinds_same ks ms) e in λ i. one_kind k m h.0 i ∷ same_kinds ks ms h.1 i

values_of_kind : (k : ColKind) (vs : List Value) → list_all (λ v. kind_same k (value_kind v)) vs ≡ true → Each (λ v. k ≡ value_kind v) vs
values_of_kind k [] e = tt
values_of_kind k (v ∷ vs) e = let h = both_true (kind_same k (value_kind v)) (list_all (λ w. kind_same k (value_kind w)) vs) e in (one_kind k (value_kind v) h.0, values_of_kind k vs h.1)

pub some_columns : (xs : List ℕ) (f : BuildFault) (at : ℕ) → fault_if (is_empty xs) f at ≡ None → xs ≢ []
some_columns [] f at e = cc
some_columns (x ∷ xs) f at e = λ g. cc

-- ---- constants

is_constant : (v : Value) → IsLiteral v → IsConstant v
is_constant values.Null h = h
is_constant (values.Int n) h = tt
is_constant (values.Text t) h = h

are_constants : (vs : List Value) → AllByRecursion IsLiteral vs → Each IsConstant vs
are_constants [] h = tt
are_constants (v ∷ vs) h = (is_constant v h.0, are_constants vs h.1)

module _ (scope : List ScopeColumn) where
  constant_operand : (s : Scalar) → IsScalar s → ConstantOperand (operand_of scope s)
  constant_operand (scalars.Column c) h = tt
  constant_operand (scalars.Literal v at) h = is_constant v h

  mutual
    pub constants_of : (c : CondTree) → IsCond c → HasConstants (pred_of scope c)
    constants_of (compare at sign a b word_at) h = (constant_operand a h.0, constant_operand b h.1)
    constants_of (is_null at c) h = tt
    constants_of (is_not_null at c) h = tt
    constants_of (in_list at c vs word_at) h = are_constants vs h.1.1
    constants_of (in_query at cs q word_at) h = tt
    constants_of (all_of at cs) h = all_constants_of cs h.1
    constants_of (any_of at cs) h = all_constants_of cs h.1
    constants_of (negated at c) h = constants_of c h

    all_constants_of : (cs : CondTrees) → AreConds cs → AllConstants (preds_of scope cs)
    all_constants_of no_conds h = tt
    all_constants_of (cond_then c cs) h = (constants_of c h.0, all_constants_of cs h.1)

module _ (outer scope : List ScopeColumn) where
  pub in_sight : (c : ColumnName) → column_fault outer scope c ≡ None → place_of scope c < length scope
  in_sight c e = found scope c (one_fits (length (filter (fits c) scope)) (list_any (fits c) outer) c.at e)

  pub all_in_sight : (cs : List ColumnName) → columns_fault outer scope cs ≡ None → Each (λ k. k < length scope) (map (place_of scope) cs)
  all_in_sight [] e = tt
  all_in_sight (c ∷ cs) e = let a = neither (column_fault outer scope c) _ e in (in_sight c a.0, all_in_sight cs a.1)

  operand_in : (s : Scalar) → scalar_fault outer scope s ≡ None → Each (λ k. k < length scope) (operand_columns (operand_of scope s))
  operand_in (scalars.Column c) e = (in_sight c e, tt)
  operand_in (scalars.Literal v at) e = tt

  module _ (ks : List ColKind) where
    mutual
      pub test_in : (c : CondTree) → test_fault outer scope ks c ≡ None → Each (λ k. k < length scope) (occurring (pred_of scope c))
      test_in (compare at sign a b word_at) e =
          let p = neither (scalar_fault outer scope a) _ e in
          let q = neither (scalar_fault outer scope b) _ p.1 in
          each_append (λ k. k < length scope) (operand_columns (operand_of scope a)) (operand_columns (operand_of scope b)) (operand_in a p.0) (operand_in b q.0)
      test_in (is_null at c) e = (in_sight c e, tt)
      test_in (is_not_null at c) e = (in_sight c e, tt)
      test_in (in_list at c vs word_at) e = (in_sight c (neither (column_fault outer scope c) _ e).0, tt)
      test_in (in_query at cs q word_at) e = tt
      test_in (all_of at cs) e = tests_in cs e
      test_in (any_of at cs) e = tests_in cs e
      test_in (negated at c) e = test_in c e

      tests_in : (cs : CondTrees) → tests_fault outer scope ks cs ≡ None → Each (λ k. k < length scope) (occurring_in (preds_of scope cs))
      tests_in no_conds e = tt
      tests_in (cond_then c cs) e =
          let a = neither (test_fault outer scope ks c) _ e in
          each_append (λ k. k < length scope) (occurring (pred_of scope c)) (occurring_in (preds_of scope cs)) (test_in c a.0) (tests_in cs a.1)

    mutual
      pub test_typed : (c : CondTree) → test_fault outer scope ks c ≡ None → Typed ks (pred_of scope c)
      test_typed (compare at sign a b word_at) e =
          let p = neither (scalar_fault outer scope a) _ e in
          let q = neither (scalar_fault outer scope b) _ p.1 in
          one_kind (operand_kind ks (operand_of scope a)) (operand_kind ks (operand_of scope b)) (no_fault _ _ _ q.1)
      test_typed (is_null at c) e = tt
      test_typed (is_not_null at c) e = tt
      test_typed (in_list at c vs word_at) e = values_of_kind (column_kind scope ks c) vs (no_fault _ _ _ (neither (column_fault outer scope c) _ e).1)
      test_typed (in_query at cs q word_at) e = tt
      test_typed (all_of at cs) e = tests_typed cs e
      test_typed (any_of at cs) e = tests_typed cs e
      test_typed (negated at c) e = test_typed c e

      tests_typed : (cs : CondTrees) → tests_fault outer scope ks cs ≡ None → AllTyped ks (preds_of scope cs)
      tests_typed no_conds e = tt
      tests_typed (cond_then c cs) e = let a = neither (test_fault outer scope ks c) _ e in (test_typed c a.0, tests_typed cs a.1)
