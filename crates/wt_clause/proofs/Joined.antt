-- What a call told of an operand of FROM, told of the clause.
use Rattle.std.proofs.Common.{◌≡◌, ℕ, ◌+◌, ◌<◌, ◌^◌, not, nat_lt, List, [], ◌++◌, length, None, Result, sym, ap, subst, ◌∙◌, arith}
use Rattle.wt_ast.specs.Tree.{FromTree, CondTree, inner_join, left_join, right_join}
use Rattle.wt_schema.specs.declared.schema.ColKind.{ColKind}
use Rattle.wt_schema.specs.declared.schema.Table.{Table}
use Rattle.wt_query_rows.specs.declared.scope.ScopeColumn.{ScopeColumn}
use Rattle.wt_query_rows.specs.Scopes.{scope_of}
use Rattle.wt_query_plan.specs.declared.fault.BuildError.{BuildError}
use Rattle.wt_query_plan.specs.declared.fault.BuildFault.TheVariants.{NoJoinEquality}
use Rattle.wt_query_plan.specs.Building.{Conjunct, conjuncts}
use Rattle.wt_query_plan.specs.Faults.{Fault, first_of, fault_if, joins_fault, cond_fault, outer_fault, unpaired, conjunct_places, kinds_of}
use Rattle.wt_query_plan.specs.Telling.{Tells}
use Rattle.wt_query_plan.proofs.Faultless.{as_many}
use Rattle.wt_joins.specs.declared.commas.CommaList.{CommaList}
use Rattle.wt_joins.specs.Parts.{PartTree, inner_operand, left_operand, right_operand, Within}
use Rattle.wt_clause.specs.Lists.{from_operand, IsList}
use Rattle.wt_clause.proofs.Clauses.{places_within}
use Rattle.wt_query_bounds.proofs.Clauses.{places_length}
use Rattle.wt_clause.proofs.Commas.{inner_is, left_is, right_is}

abbrev pub places_in : PartTree → List ℕ
places_in p = p.places

-- behind calls that told no fault
pub behind : {T : Type 0} (f g : Fault) (P : T → Type 0) (r : Result T BuildError) → f ≡ None → Tells g P r → Tells (first_of f g) P r
behind f g P r e h = subst (λ x. Tells (first_of x g) P r) (sym e) h

module _ (S : List Table) (l r : FromTree) where
  pub left_wide : (p : PartTree) → p ≡ from_operand S l → length p.places ≡ length (scope_of S l)
  left_wide p e = ap (λ q. length (places_in q)) e ∙ places_length S l

  pub part_wide : (p q : PartTree) → p ≡ from_operand S l → q ≡ from_operand S r → length (scope_of S l) + length (scope_of S r) < 2 ^ 32 → length p.places + length q.places < 2 ^ 32
  part_wide p q e f h =
      let a : length p.places ≡ length (scope_of S l) = left_wide p e in
      let b : length q.places ≡ length (scope_of S r) = ap (λ t. length (places_in t)) f ∙ places_length S r in
      omega (arith, a, b, h)

pub part_within : (S : List Table) (f : FromTree) (p : PartTree) → p ≡ from_operand S f → Within p.places
part_within S f p e = subst (λ q. Within (places_in q)) (sym e) (places_within S f)

module _ (S : List Table) (outer block scope : List ScopeColumn) (ks : List ColKind) (l r : FromTree) (on : CondTree) (at : ℕ) (js : List Conjunct) (one other : PartTree) (result : Result CommaList BuildError)
    (parts : first_of (joins_fault S outer block l) (joins_fault S outer block r) ≡ None) (none : cond_fault S outer block scope ks on ≡ None)
    (seen : scope ≡ scope_of S l ++ scope_of S r) (kinds : ks ≡ kinds_of S l ++ kinds_of S r) (is : js ≡ conjuncts S scope on) (left : one ≡ from_operand S l) (right : other ≡ from_operand S r) where
  unfaulted : cond_fault S outer block (scope_of S l ++ scope_of S r) (kinds_of S l ++ kinds_of S r) on ≡ None
  unfaulted = sym (λ i. cond_fault S outer block (seen i) (kinds i) on) ∙ none

  resolved : js ≡ conjuncts S (scope_of S l ++ scope_of S r) on
  resolved = is ∙ ap (λ c. conjuncts S c on) seen

  width : length one.places ≡ length (scope_of S l)
  width = left_wide S l r one left

  pub as_many_offsets : length (conjunct_places on) ≡ length js
  as_many_offsets = as_many S scope on ∙ ap length (sym is)

  pub inner_told : Tells (fault_if (unpaired (length one.places) js) NoJoinEquality at) (IsList (inner_operand js one other) [] []) result
      → Tells (joins_fault S outer block (inner_join l r on at)) (IsList (from_operand S (inner_join l r on at)) [] []) result
  inner_told h =
      let a = subst (λ n. Tells (fault_if (unpaired n js) NoJoinEquality at) (IsList (inner_operand js one other) [] []) result) width h in
      let b = subst (λ p. Tells (fault_if (unpaired (length (scope_of S l)) js) NoJoinEquality at) (IsList p [] []) result) (λ i. inner_operand js (left i) (right i)) a in
      let c = subst (λ k. Tells (fault_if (unpaired (length (scope_of S l)) k) NoJoinEquality at) (IsList (inner_operand k (from_operand S l) (from_operand S r)) [] []) result) resolved b in
      let d = subst (λ p. Tells (fault_if (unpaired (length (scope_of S l)) (conjuncts S (scope_of S l ++ scope_of S r) on)) NoJoinEquality at) (IsList p [] []) result) (inner_is S (conjuncts S (scope_of S l ++ scope_of S r) on) l r) c in
      behind _ _ _ result parts (behind _ _ _ result unfaulted d)

  pub left_told : Tells (first_of (outer_fault (λ k. not (nat_lt k (length one.places))) (length one.places) js (conjunct_places on)) (fault_if (unpaired (length one.places) js) NoJoinEquality at)) (IsList (left_operand js one other) [] []) result
      → Tells (joins_fault S outer block (left_join l r on at)) (IsList (from_operand S (left_join l r on at)) [] []) result
  left_told h =
      let a = subst (λ n. Tells (first_of (outer_fault (λ k. not (nat_lt k n)) n js (conjunct_places on)) (fault_if (unpaired n js) NoJoinEquality at)) (IsList (left_operand js one other) [] []) result) width h in
      let n = length (scope_of S l) in
      let b = subst (λ p. Tells (first_of (outer_fault (λ k. not (nat_lt k n)) n js (conjunct_places on)) (fault_if (unpaired n js) NoJoinEquality at)) (IsList p [] []) result) (λ i. left_operand js (left i) (right i)) a in
      let c = subst (λ m. Tells (first_of (outer_fault (λ k. not (nat_lt k n)) n m (conjunct_places on)) (fault_if (unpaired n m) NoJoinEquality at)) (IsList (left_operand m (from_operand S l) (from_operand S r)) [] []) result) resolved b in
      let m = conjuncts S (scope_of S l ++ scope_of S r) on in
      let d = subst (λ p. Tells (first_of (outer_fault (λ k. not (nat_lt k n)) n m (conjunct_places on)) (fault_if (unpaired n m) NoJoinEquality at)) (IsList p [] []) result) (left_is S m l r) c in
      behind _ _ _ result parts (behind _ _ _ result unfaulted d)

  pub right_told : Tells (first_of (outer_fault (λ k. nat_lt k (length one.places)) (length one.places) js (conjunct_places on)) (fault_if (unpaired (length one.places) js) NoJoinEquality at)) (IsList (right_operand js one other) [] []) result
      → Tells (joins_fault S outer block (right_join l r on at)) (IsList (from_operand S (right_join l r on at)) [] []) result
  right_told h =
      let a = subst (λ n. Tells (first_of (outer_fault (λ k. nat_lt k n) n js (conjunct_places on)) (fault_if (unpaired n js) NoJoinEquality at)) (IsList (right_operand js one other) [] []) result) width h in
      let n = length (scope_of S l) in
      let b = subst (λ p. Tells (first_of (outer_fault (λ k. nat_lt k n) n js (conjunct_places on)) (fault_if (unpaired n js) NoJoinEquality at)) (IsList p [] []) result) (λ i. right_operand js (left i) (right i)) a in
      let c = subst (λ m. Tells (first_of (outer_fault (λ k. nat_lt k n) n m (conjunct_places on)) (fault_if (unpaired n m) NoJoinEquality at)) (IsList (right_operand m (from_operand S l) (from_operand S r)) [] []) result) resolved b in
      let m = conjuncts S (scope_of S l ++ scope_of S r) on in
      let d = subst (λ p. Tells (first_of (outer_fault (λ k. nat_lt k n) n m (conjunct_places on)) (fault_if (unpaired n m) NoJoinEquality at)) (IsList p [] []) result) (right_is S m l r) c in
      behind _ _ _ result parts (behind _ _ _ result unfaulted d)
