-- A FROM clause as a comma list.
use Rattle.std.proofs.Common.{◌≡◌, ℕ, ◌+◌, Bool, true, false, ◌||◌, not, List, [], ◌∷◌, ◌++◌, map, length, length-append, filter, Some, None, refl, sym, ap, ◌∙◌, arith}
use Rattle.std.specs.List.{list_any}
use Rattle.wt_ast.specs.Tree.{FromTree, table, derived, inner_join, left_join, right_join, comma}
use Rattle.wt_schema.specs.declared.schema.Table.{Table}
use Rattle.wt_bag.specs.Bags.{Each}
use Rattle.wt_bag.proofs.EachLaws.{all_from_each, each_append}
use Rattle.wt_query_rows.specs.Scopes.{scope_of}
use Rattle.wt_query_plan.specs.Building.{Conjunct, from_plan, places_of, inner_of, left_of, right_of, comma_of, link, links, free_of}
use Rattle.wt_query_plan.specs.Faults.{Fault, first_of, fault_if, commas_fault}
use Rattle.wt_query_plan.specs.declared.fault.BuildFault.TheVariants.{NoJoinEquality}
use Rattle.wt_joins.specs.declared.commas.Comma.{Comma}
use Rattle.wt_joins.specs.Parts.{PartTree, operand, inner_operand, left_operand, right_operand, Within}
use Rattle.wt_joins.specs.Commas.{links_at, commas_refused, free_at, comma_operand, list_operand, list_width, AllWithin}
use Rattle.wt_joins.proofs.Listing.{places_in, places_width}
use Rattle.wt_clause.specs.Lists.{from_operand, first_operand, later_operands, comma_at, commas_of}
use Rattle.wt_clause.proofs.Clauses.{places_within}
use Rattle.wt_query_bounds.proofs.Clauses.{places_length}

list_behind : (js : List Conjunct) (l : PartTree) (rs : List PartTree) (r : PartTree) → list_operand js l (rs ++ r ∷ []) ≡ comma_operand js (list_operand js l rs) r
list_behind js l [] r = refl
list_behind js l (s ∷ rs) r = list_behind js (comma_operand js l s) rs r

one_fault : (f : Fault) → first_of f None ≡ f
one_fault None = refl
one_fault (Some f) = refl

three_faults : (f g h : Fault) → first_of (first_of f g) h ≡ first_of f (first_of g h)
three_faults None g h = refl
three_faults (Some f) g h = refl

refused_behind : (js : List Conjunct) (cs : List Comma) (c : Comma) → commas_refused js (cs ++ c ∷ []) ≡ first_of (commas_refused js cs) (fault_if (not (list_any (links_at c) js)) NoJoinEquality c.at)
refused_behind js [] c = one_fault _
refused_behind js (d ∷ cs) c = ap (first_of _) (refused_behind js cs c) ∙ sym (three_faults _ (commas_refused js cs) _)

or_swap : (a b c : Bool) → (a || (b || c)) ≡ (b || (a || c))
or_swap true true c = refl
or_swap true false c = refl
or_swap false b c = refl

or_none : (a : Bool) → (a || false) ≡ (a || false)
or_none a = refl

any_behind : (j : Conjunct) (cs : List Comma) (c : Comma) → list_any (λ d. links_at d j) (cs ++ c ∷ []) ≡ (links_at c j || list_any (λ d. links_at d j) cs)
any_behind j [] c = refl
any_behind j (d ∷ cs) c = ap (λ b. links_at d j || b) (any_behind j cs c) ∙ or_swap (links_at d j) (links_at c j) (list_any (λ e. links_at e j) cs)

module _ (S : List Table) where
  -- a comma behind a clause, of the lengths of its places or of its columns
  comma_is : (js : List Conjunct) (l r : FromTree) (at : ℕ) → comma_operand js (operand (from_plan S js l) (places_of S l)) (from_operand S r) ≡ operand (from_plan S js (comma l r at)) (places_of S (comma l r at))
  comma_is js l r at =
      let m : length (places_of S l) + length (places_of S r) ≡ length (scope_of S l ++ scope_of S r) = omega (arith, places_length S l, places_length S r, length-append (scope_of S l) (scope_of S r)) in
      λ i. operand (comma_of (places_length S l i) (m i) (places_of S l) (places_of S r) js (from_plan S js l) (from_plan S [] r)) (places_of S l ++ map (λ k. places_length S l i + k) (places_of S r))

  pub whole_list : (js : List Conjunct) (f : FromTree) → list_operand js (first_operand S f) (later_operands S f) ≡ operand (from_plan S js f) (places_of S f)
  whole_list js (comma l r at) = list_behind js (first_operand S l) (later_operands S l) (from_operand S r) ∙ ap (λ p. comma_operand js p (from_operand S r)) (whole_list js l) ∙ comma_is js l r at
  whole_list js (table name alias at alias_at) = refl
  whole_list js (derived q alias columns at alias_at) = refl
  whole_list js (inner_join l r on at) = refl
  whole_list js (left_join l r on at) = refl
  whole_list js (right_join l r on at) = refl

  pub list_wide : (f : FromTree) → list_width (first_operand S f) (later_operands S f) ≡ length (scope_of S f)
  list_wide f = sym (places_width [] (first_operand S f) (later_operands S f)) ∙ ap (λ p. length (places_in p)) (whole_list [] f) ∙ places_length S f

  later_each : (f : FromTree) → Each (λ (p : PartTree). Within p.places) (later_operands S f)
  later_each (comma l r at) = each_append (λ (p : PartTree). Within p.places) (later_operands S l) (from_operand S r ∷ []) (later_each l) (places_within S r, tt)
  later_each (table name alias at alias_at) = tt
  later_each (derived q alias columns at alias_at) = tt
  later_each (inner_join l r on at) = tt
  later_each (left_join l r on at) = tt
  later_each (right_join l r on at) = tt

  pub later_within : (f : FromTree) → AllWithin (later_operands S f)
  later_within f = all_from_each (λ (p : PartTree). Within p.places) (later_operands S f) (later_each f)

  pub commas_are : (js : List Conjunct) (f : FromTree) → commas_refused js (commas_of S f) ≡ commas_fault S js f
  commas_are js (comma l r at) = refused_behind js (commas_of S l) (comma_at (length (scope_of S l)) (length (scope_of S l ++ scope_of S r)) at) ∙ ap (λ g. first_of g (fault_if (not (list_any (link (length (scope_of S l)) (length (scope_of S l ++ scope_of S r))) js)) NoJoinEquality at)) (commas_are js l)
  commas_are js (table name alias at alias_at) = refl
  commas_are js (derived q alias columns at alias_at) = refl
  commas_are js (inner_join l r on at) = refl
  commas_are js (left_join l r on at) = refl
  commas_are js (right_join l r on at) = refl

  links_are : (f : FromTree) (j : Conjunct) → list_any (λ c. links_at c j) (commas_of S f) ≡ links S f j
  links_are (comma l r at) j = any_behind j (commas_of S l) (comma_at (length (scope_of S l)) (length (scope_of S l ++ scope_of S r)) at) ∙ ap (λ b. link (length (scope_of S l)) (length (scope_of S l ++ scope_of S r)) j || b) (links_are l j)
  links_are (table name alias at alias_at) j = refl
  links_are (derived q alias columns at alias_at) j = refl
  links_are (inner_join l r on at) j = refl
  links_are (left_join l r on at) j = refl
  links_are (right_join l r on at) j = refl

  pub free_are : (f : FromTree) (js : List Conjunct) → free_at (commas_of S f) js ≡ free_of S f js
  free_are f js = λ i. filter (λ j. not (links_are f j i)) js

  -- joins of two clauses
  pub inner_is : (js : List Conjunct) (l r : FromTree) → inner_operand js (from_operand S l) (from_operand S r)
      ≡ operand (inner_of (length (scope_of S l)) (places_of S l) (places_of S r) (places_of S l ++ map (λ k. length (scope_of S l) + k) (places_of S r)) js (from_plan S [] l) (from_plan S [] r)) (places_of S l ++ map (λ k. length (scope_of S l) + k) (places_of S r))
  inner_is js l r = λ i. operand (inner_of (places_length S l i) (places_of S l) (places_of S r) (places_of S l ++ map (λ k. places_length S l i + k) (places_of S r)) js (from_plan S [] l) (from_plan S [] r)) (places_of S l ++ map (λ k. places_length S l i + k) (places_of S r))

  pub left_is : (js : List Conjunct) (l r : FromTree) → left_operand js (from_operand S l) (from_operand S r)
      ≡ operand (left_of (length (scope_of S l)) (places_of S l) (places_of S r) js (from_plan S [] l) (from_plan S [] r)) (places_of S l ++ map (λ k. length (scope_of S l) + k) (places_of S r))
  left_is js l r = λ i. operand (left_of (places_length S l i) (places_of S l) (places_of S r) js (from_plan S [] l) (from_plan S [] r)) (places_of S l ++ map (λ k. places_length S l i + k) (places_of S r))

  pub right_is : (js : List Conjunct) (l r : FromTree) → right_operand js (from_operand S l) (from_operand S r)
      ≡ operand (right_of (length (scope_of S l)) (places_of S l) (places_of S r) js (from_plan S [] l) (from_plan S [] r)) (map (λ k. length (scope_of S r) + k) (places_of S l) ++ places_of S r)
  right_is js l r = λ i. operand (right_of (places_length S l i) (places_of S l) (places_of S r) js (from_plan S [] l) (from_plan S [] r)) (map (λ k. places_length S r i + k) (places_of S l) ++ places_of S r)
