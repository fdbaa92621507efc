-- A test over a zone is resolved to the test that it was made from, without a fault.
use Rattle.std.proofs.Common.{◌≡◌, ℕ, ◌+◌, ◌<◌, true, ◌&&◌, not, List, [], ◌∷◌, map, length, get_or, None, refl, sym, ap, ◌∙◌, arith}
use Rattle.std.specs.List.{list_any, list_all}
use Rattle.std.proofs.lemmas.List.{get_or-map}
use Rattle.wt_bag.specs.Bags.{Each}
use Rattle.wt_bag.proofs.EachLaws.{each_append_left, each_append_right}
use Rattle.wt_value.specs.declared.value.Value.{Value}
use Rattle.wt_pred.specs.declared.tree.Cmp.{Cmp}
use Rattle.wt_pred.specs.declared.tree.Cmp.TheVariants as signs
use Rattle.wt_pred.specs.declared.tree.Operand.{Operand}
use Rattle.wt_pred.specs.declared.tree.Operand.TheVariants.{Column, Constant}
use Rattle.wt_pred.specs.Tree.{PredTree, PredTrees, compare, is_null, is_not_null, in_list, all_of, any_of, negated, no_preds, pred_then}
use Rattle.wt_pred.specs.Columns.{operand_columns, occurring, occurring_in, operand_renumbered, renumbered, all_renumbered}
use Rattle.wt_schema.specs.declared.schema.ColKind.{ColKind}
use Rattle.wt_schema.specs.declared.schema.ColKind.TheVariants as kinds
use Rattle.wt_query_rows.specs.declared.scope.ScopeColumn.{ScopeColumn}
use Rattle.wt_query_rows.specs.Scopes.{fits}
use Rattle.wt_query_rows.specs.Rows.{sign_of}
use Rattle.wt_plan.specs.Regular.{kind_at, kinds_at, value_kind, operand_kind, Typed, AllTyped}
use Rattle.wt_query_plan.specs.Building.{place_of, operand_of, pred_of, preds_of}
use Rattle.wt_query_plan.specs.Faults.{first_of, fault_if, name_fault, column_fault, columns_fault, scalar_fault, test_fault, tests_fault, kind_same, kinds_same, column_kind}
use Rattle.wt_query_plan.specs.declared.fault.BuildFault.TheVariants as faults
use Rattle.wt_blocks.specs.Printed.{column_at, columns_at, word_of, operand_column, scalar_of, test_tree, test_trees}
use Rattle.wt_blocks.proofs.Naming.{each_at, AllDiffer, Stands, found_there}

pub sign_word : (s : Cmp) → sign_of (word_of s) ≡ s
sign_word signs.Eq = refl
sign_word signs.Ne = refl
sign_word signs.Lt = refl
sign_word signs.Le = refl
sign_word signs.Gt = refl
sign_word signs.Ge = refl

pub kind_itself : (k : ColKind) → kind_same k k ≡ true
kind_itself kinds.Int = refl
kind_itself kinds.Text = refl

pub kinds_themselves : (ks : List ColKind) → kinds_same ks ks ≡ true
kinds_themselves [] = refl
kinds_themselves (k ∷ ks) = (λ i. kind_itself k i && kinds_same ks ks) ∙ kinds_themselves ks

-- kinds that stand among others from a place on
abbrev pub KindsStand : List ColKind → ℕ → List ColKind → Type 0
KindsStand all d ks = (k : ℕ) → k < length ks → kind_at all (d + k) ≡ kind_at ks k

pub no_mismatch : (a b : ColKind) (at : ℕ) → a ≡ b → fault_if (not (kind_same a b)) faults.TypeMismatch at ≡ None
no_mismatch a b at e = ap (λ k. fault_if (not (kind_same a k)) faults.TypeMismatch at) (sym e) ∙ ap (λ t. fault_if (not t) faults.TypeMismatch at) (kind_itself a)

module _ (scope : List ScopeColumn) (differ : AllDiffer scope) (d : ℕ) (columns : List ScopeColumn) (stands : Stands scope d columns) where
  pub place_there : (k : ℕ) → k < length columns → place_of scope (column_at columns k) ≡ d + k
  place_there k l = (found_there scope differ d columns stands k l).place

  pub no_column_fault : (outer : List ScopeColumn) (k : ℕ) → k < length columns → column_fault outer scope (column_at columns k) ≡ None
  no_column_fault outer k l = ap (λ n. name_fault n (list_any (fits (column_at columns k)) outer) 0) (found_there scope differ d columns stands k l).once

  -- ---- several columns

  pub places_there : (cols : List ℕ) → Each (λ k. k < length columns) cols → map (place_of scope) (columns_at columns cols) ≡ map (λ k. d + k) cols
  places_there [] h = refl
  places_there (k ∷ cols) h = λ i. place_there k h.0 i ∷ places_there cols h.1 i

  pub no_columns_fault : (outer : List ScopeColumn) (cols : List ℕ) → Each (λ k. k < length columns) cols → columns_fault outer scope (columns_at columns cols) ≡ None
  no_columns_fault outer [] h = refl
  no_columns_fault outer (k ∷ cols) h = (λ i. first_of (no_column_fault outer k h.0 i) (columns_fault outer scope (columns_at columns cols))) ∙ no_columns_fault outer cols h.1

  pub kinds_there : (all ks : List ColKind) → length ks ≡ length columns → KindsStand all d ks → (cols : List ℕ) → Each (λ k. k < length columns) cols → map (column_kind scope all) (columns_at columns cols) ≡ kinds_at ks cols
  kinds_there all ks e s [] h = refl
  kinds_there all ks e s (k ∷ cols) h = λ i. (ap (kind_at all) (place_there k h.0) ∙ s k (omega (arith, e, h.0))) i ∷ kinds_there all ks e s cols h.1 i

  -- ---- a test over the places of a list

  module _ (cols : List ℕ) (within : Each (λ k. k < length columns) cols) where
    abbrev pub place : ℕ → ℕ
    place k = get_or (map (λ j. d + j) cols) k 0

    abbrev There : ℕ → Type 0
    There k = k < length cols

    low : (k : ℕ) → k < length cols → get_or cols k 0 < length columns
    low k l = each_at (λ j. j < length columns) cols within k 0 l

    column_place : (k : ℕ) → k < length cols → place_of scope (operand_column columns cols k) ≡ place k
    column_place k l = place_there (get_or cols k 0) (low k l) ∙ sym (get_or-map (λ j. d + j) cols k 0 0 l)

    operand_place : (o : Operand) → Each There (operand_columns o) → operand_of scope (scalar_of columns cols o) ≡ operand_renumbered place o
    operand_place (Column k) h = ap Column (column_place k h.0)
    operand_place (Constant v) h = refl

    mutual
      pub test_resolved : (q : PredTree) → Each There (occurring q) → pred_of scope (test_tree columns cols q) ≡ renumbered place q
      test_resolved (compare s a b) h =
          λ i. compare (sign_word s i) (operand_place a (each_append_left There (operand_columns a) (operand_columns b) h) i) (operand_place b (each_append_right There (operand_columns a) (operand_columns b) h) i)
      test_resolved (is_null k) h = ap is_null (column_place k h.0)
      test_resolved (is_not_null k) h = ap is_not_null (column_place k h.0)
      test_resolved (in_list k vs) h = ap (λ n. in_list n vs) (column_place k h.0)
      test_resolved (all_of ps) h = ap all_of (tests_resolved ps h)
      test_resolved (any_of ps) h = ap any_of (tests_resolved ps h)
      test_resolved (negated p) h = ap negated (test_resolved p h)

      tests_resolved : (ps : PredTrees) → Each There (occurring_in ps) → preds_of scope (test_trees columns cols ps) ≡ all_renumbered place ps
      tests_resolved no_preds h = refl
      tests_resolved (pred_then p ps) h =
          λ i. pred_then (test_resolved p (each_append_left There (occurring p) (occurring_in ps) h) i) (tests_resolved ps (each_append_right There (occurring p) (occurring_in ps) h) i)

    module _ (outer : List ScopeColumn) (all ks : List ColKind) (as_many : length ks ≡ length columns) (stand : KindsStand all d ks) where
      -- the kind of a place of the list
      kind_there : (k : ℕ) → k < length cols → kind_at all (place_of scope (operand_column columns cols k)) ≡ kind_at (kinds_at ks cols) k
      kind_there k l =
          ap (kind_at all) (place_there (get_or cols k 0) (low k l))
          ∙ stand (get_or cols k 0) (omega (arith, as_many, low k l))
          ∙ sym (get_or-map (kind_at ks) cols k 0 kinds.Int l)

      operand_there : (o : Operand) → Each There (operand_columns o) → operand_kind all (operand_of scope (scalar_of columns cols o)) ≡ operand_kind (kinds_at ks cols) o
      operand_there (Column k) h = kind_there k h.0
      operand_there (Constant v) h = refl

      no_operand_fault : (o : Operand) → Each There (operand_columns o) → scalar_fault outer scope (scalar_of columns cols o) ≡ None
      no_operand_fault (Column k) h = no_column_fault outer (get_or cols k 0) (low k h.0)
      no_operand_fault (Constant v) h = refl

      values_match : (k : ColKind) (vs : List Value) → Each (λ v. k ≡ value_kind v) vs → list_all (λ v. kind_same k (value_kind v)) vs ≡ true
      values_match k [] h = refl
      values_match k (v ∷ vs) h = (λ i. (ap (kind_same k) (sym h.0) ∙ kind_itself k) i && list_all (λ w. kind_same k (value_kind w)) vs) ∙ values_match k vs h.1

      mutual
        pub no_test_fault : (q : PredTree) → Each There (occurring q) → Typed (kinds_at ks cols) q → test_fault outer scope all (test_tree columns cols q) ≡ None
        no_test_fault (compare s a b) h t =
            let l = each_append_left There (operand_columns a) (operand_columns b) h in
            let r = each_append_right There (operand_columns a) (operand_columns b) h in
            (λ i. first_of (no_operand_fault a l i) (first_of (no_operand_fault b r i) (fault_if (not (kind_same (operand_kind all (operand_of scope (scalar_of columns cols a))) (operand_kind all (operand_of scope (scalar_of columns cols b))))) faults.TypeMismatch 0)))
            ∙ no_mismatch (operand_kind all (operand_of scope (scalar_of columns cols a))) (operand_kind all (operand_of scope (scalar_of columns cols b))) 0 (operand_there a l ∙ t ∙ sym (operand_there b r))
        no_test_fault (is_null k) h t = no_column_fault outer (get_or cols k 0) (low k h.0)
        no_test_fault (is_not_null k) h t = no_column_fault outer (get_or cols k 0) (low k h.0)
        no_test_fault (in_list k vs) h t =
            (λ i. first_of (no_column_fault outer (get_or cols k 0) (low k h.0) i) (fault_if (not (list_all (λ v. kind_same (kind_there k h.0 i) (value_kind v)) vs)) faults.TypeMismatch 0))
            ∙ ap (λ b. fault_if (not b) faults.TypeMismatch 0) (values_match (kind_at (kinds_at ks cols) k) vs t)
        no_test_fault (all_of ps) h t = no_tests_fault ps h t
        no_test_fault (any_of ps) h t = no_tests_fault ps h t
        no_test_fault (negated p) h t = no_test_fault p h t

        no_tests_fault : (ps : PredTrees) → Each There (occurring_in ps) → AllTyped (kinds_at ks cols) ps → tests_fault outer scope all (test_trees columns cols ps) ≡ None
        no_tests_fault no_preds h t = refl
        no_tests_fault (pred_then p ps) h t =
            (λ i. first_of (no_test_fault p (each_append_left There (occurring p) (occurring_in ps) h) t.0 i) (tests_fault outer scope all (test_trees columns cols ps)))
            ∙ no_tests_fault ps (each_append_right There (occurring p) (occurring_in ps) h) t.1
