-- A FROM clause whose items have no fault: each operand has a kind for each column, and it has few columns.
use Rattle.std.proofs.Common.{◌≡◌, ℕ, suc, ◌+◌, ◌*◌, ◌≤◌, nat_lt, nat_eq, Bool, true, false, not, cond, List, [], ◌∷◌, ◌++◌, map, length, length-append, filter, None, refl, sym, ◌∙◌, arith}
use Rattle.std.specs.Prelude.{flat_map}
use Rattle.std.specs.List.{All}
use Rattle.std.specs.Option.{unwrap_or}
use Rattle.std.specs.Str.{bytes_eq}
use Rattle.std.proofs.lemmas.Bool.{ltb-false}
use Rattle.std.proofs.lemmas.List.Elements.{All-head, All-tail}
use borrow.Author.Tests.{eqb-true}
use Rattle.wt_ast.specs.Tree.{QueryTree, FromTree, select, table, derived, inner_join, left_join, right_join, comma}
use Rattle.wt_ast.specs.declared.tree.Item.{Item}
use Rattle.wt_ast.specs.declared.tree.Item.TheVariants.{Star, AllOf, Column}
use Rattle.wt_schema.specs.declared.schema.Column as schema_columns
use Rattle.wt_schema.specs.declared.schema.ColKind.{ColKind}
use Rattle.wt_schema.specs.declared.schema.Table.{Table}
use Rattle.wt_schema.specs.Lawful.{IsSchema, IsTable}
use Rattle.wt_plan.specs.Regular.{kind_at}
use Rattle.wt_plan.proofs.Upto.{length_map}
use Rattle.wt_query_rows.specs.declared.scope.ScopeColumn.{ScopeColumn}
use Rattle.wt_query_rows.specs.Scopes.{in_scope, is_of, item_names, columns_named, column_names, scope_of, output_names}
use Rattle.wt_query_plan.specs.declared.fault.BuildFault.{BuildFault}
use Rattle.wt_query_plan.specs.Building.{kept_by, places_where}
use Rattle.wt_query_plan.specs.Faults.{fault_if, query_fault, from_fault, joins_fault, filter_fault, commas_fault, items_fault, item_fault, item_at, item_kinds, kinds_of, output_kinds}
use Rattle.wt_query_plan.specs.declared.fault.BuildFault.TheVariants as faults
use Rattle.wt_query_plan.proofs.Faultless.{neither}
use Rattle.wt_query_bounds.specs.Bounds.{items_in_from, items_in_cond, Even}
use Rattle.wt_query_bounds.proofs.Clauses.{even_all}

pub no_fault : (b : Bool) (f : BuildFault) (at : ℕ) → fault_if (not b) f at ≡ None → b ≡ true
no_fault true f at e = refl
no_fault false f at e = cc

not_wide : (b : Bool) (f : BuildFault) (at : ℕ) → fault_if b f at ≡ None → b ≡ false
not_wide false f at e = refl
not_wide true f at e = cc

pub where_length : (t : ScopeColumn → Bool) (scope : List ScopeColumn) → length (places_where t scope) ≡ length (map (λ (s : ScopeColumn). s.name) (filter t scope))
where_length t [] = refl
where_length t (s ∷ scope) = here (t s) (length_map suc (places_where t scope) ∙ where_length t scope)
  where
    here : (b : Bool) → length (map suc (places_where t scope)) ≡ length (map (λ (s : ScopeColumn). s.name) (filter t scope))
        → length (cond b (0 ∷ map suc (places_where t scope)) (map suc (places_where t scope))) ≡ length (map (λ (s : ScopeColumn). s.name) (cond b (s ∷ filter t scope) (filter t scope)))
    here true e = omega (arith, e)
    here false e = e

-- an item has a kind for each name
item_even : (scope : List ScopeColumn) (ks : List ColKind) (i : Item) → length ks ≡ length scope → length (item_kinds scope ks i) ≡ length (item_names scope i)
item_even scope ks (Star at) e = e ∙ sym (length_map (λ (s : ScopeColumn). s.name) scope)
item_even scope ks (AllOf alias at) e = length_map (kind_at ks) (places_where (is_of alias) scope) ∙ where_length (is_of alias) scope
item_even scope ks (Column column output) e = refl

items_even : (scope : List ScopeColumn) (ks : List ColKind) (items : List Item) → length ks ≡ length scope → length (flat_map (item_kinds scope ks) items) ≡ length (flat_map (item_names scope) items)
items_even scope ks [] e = refl
items_even scope ks (i ∷ items) e = omega (arith, item_even scope ks i e, items_even scope ks items e, length-append (item_kinds scope ks i) (flat_map (item_kinds scope ks) items), length-append (item_names scope i) (flat_map (item_names scope) items))

-- a list without a fault has at most 16,384 columns
items_few : (outer scope : List ScopeColumn) (ks : List ColKind) (n : ℕ) (items : List Item) → n ≤ 16384 → items_fault outer scope ks n items ≡ None → n + length (flat_map (item_kinds scope ks) items) ≤ 16384
items_few outer scope ks n [] h e = omega (arith, h)
items_few outer scope ks n (i ∷ items) h e =
    let a = neither (item_fault outer scope i) _ e in
    let b = neither (fault_if (nat_lt 16384 (n + length (item_kinds scope ks i))) faults.TooWide (item_at i)) _ a.1 in
    let few : n + length (item_kinds scope ks i) ≤ 16384 = ltb-false 16384 (n + length (item_kinds scope ks i)) (not_wide _ _ _ b.0) in
    omega (arith, items_few outer scope ks (n + length (item_kinds scope ks i)) items few b.1, length-append (item_kinds scope ks i) (flat_map (item_kinds scope ks) items))

module _ (S : List Table) where
  mutual
    pub from_even : (f : FromTree) (outer : List ScopeColumn) (before : List (List ℕ)) → from_fault S outer before f ≡ None → Even S f
    from_even (table name alias at alias_at) outer before e =
        length_map (λ (c : schema_columns.Column). c.kind) (columns_named S name)
        ∙ sym (length_map (in_scope (unwrap_or alias name)) (column_names (columns_named S name)) ∙ length_map (λ (c : schema_columns.Column). c.name) (columns_named S name))
    from_even (derived q alias columns at alias_at) outer before e =
        let a = neither (query_fault S outer q) _ e in
        let b = neither (fault_if (not (nat_eq (length (unwrap_or columns (output_names S q))) (length (output_names S q)))) _ alias_at) _ a.1 in
        query_even q outer a.0 ∙ sym (eqb-true _ _ (no_fault _ _ _ b.0)) ∙ sym (length_map (in_scope alias) (unwrap_or columns (output_names S q)))
    from_even (inner_join l r on at) outer before e = let a = neither (from_fault S outer before l) _ e in (from_even l outer before a.0, from_even r outer _ a.1)
    from_even (left_join l r on at) outer before e = let a = neither (from_fault S outer before l) _ e in (from_even l outer before a.0, from_even r outer _ a.1)
    from_even (right_join l r on at) outer before e = let a = neither (from_fault S outer before l) _ e in (from_even l outer before a.0, from_even r outer _ a.1)
    from_even (comma l r at) outer before e = let a = neither (from_fault S outer before l) _ e in (from_even l outer before a.0, from_even r outer _ a.1)

    pub query_even : (q : QueryTree) (outer : List ScopeColumn) → query_fault S outer q ≡ None → length (output_kinds S q) ≡ length (output_names S q)
    query_even (select distinct items from keep) outer e =
        items_even (scope_of S from) (kinds_of S from) items (even_all S from (from_even from outer [] (neither (from_fault S outer [] from) _ e).0))

  pub query_few : (q : QueryTree) (outer : List ScopeColumn) → query_fault S outer q ≡ None → length (output_kinds S q) ≤ 16384
  query_few (select distinct items from keep) outer e =
      let a = neither (from_fault S outer [] from) _ e in
      let b = neither (joins_fault S outer (scope_of S from) from) _ a.1 in
      let c = neither (filter_fault S outer (scope_of S from) (kinds_of S from) keep) _ b.1 in
      let d = neither (commas_fault S (kept_by S (scope_of S from) keep) from) _ c.1 in
      omega (arith, items_few outer (scope_of S from) (kinds_of S from) 0 items (omega arith) d.1)

  module _ (lawful : IsSchema S) where
    named_few : (ts : List Table) → All (IsTable S) ts → (name : List ℕ) → length (columns_named ts name) ≤ 64
    named_few [] h name = omega arith
    named_few (t ∷ ts) h name = let is : IsTable S t = All-head (IsTable S) t ts h in here (bytes_eq t.name name) is.columns.few (named_few ts (All-tail (IsTable S) t ts h) name)
      where
        here : (b : Bool) → length t.columns ≤ 64 → length (columns_named ts name) ≤ 64 → length (cond b t.columns (columns_named ts name)) ≤ 64
        here true a b = a
        here false a b = b

    pub table_few : (name : List ℕ) → length (columns_named S name) ≤ 64
    table_few name = named_few S lawful.each name

    two_few : (l r : FromTree) (n : ℕ) → length (scope_of S l) ≤ 16384 * items_in_from l → length (scope_of S r) ≤ 16384 * items_in_from r → length (scope_of S l ++ scope_of S r) ≤ 16384 * ((items_in_from l + items_in_from r) + n)
    two_few l r n e f = omega (arith, length-append (scope_of S l) (scope_of S r), e, f)

    pub from_few : (f : FromTree) (outer : List ScopeColumn) (before : List (List ℕ)) → from_fault S outer before f ≡ None → length (scope_of S f) ≤ 16384 * items_in_from f
    from_few (table name alias at alias_at) outer before e =
        omega (arith, table_few name, length_map (in_scope (unwrap_or alias name)) (column_names (columns_named S name)), length_map (λ (c : schema_columns.Column). c.name) (columns_named S name))
    from_few (derived q alias columns at alias_at) outer before e =
        let a = neither (query_fault S outer q) _ e in
        omega (arith, query_few q outer a.0, from_even (derived q alias columns at alias_at) outer before e)
    from_few (inner_join l r on at) outer before e = let a = neither (from_fault S outer before l) _ e in two_few l r (items_in_cond on) (from_few l outer before a.0) (from_few r outer _ a.1)
    from_few (left_join l r on at) outer before e = let a = neither (from_fault S outer before l) _ e in two_few l r (items_in_cond on) (from_few l outer before a.0) (from_few r outer _ a.1)
    from_few (right_join l r on at) outer before e = let a = neither (from_fault S outer before l) _ e in two_few l r (items_in_cond on) (from_few l outer before a.0) (from_few r outer _ a.1)
    from_few (comma l r at) outer before e = let a = neither (from_fault S outer before l) _ e in omega (arith, two_few l r 0 (from_few l outer before a.0) (from_few r outer _ a.1))
