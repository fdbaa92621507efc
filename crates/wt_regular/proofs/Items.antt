-- The places of a SELECT list without a fault: they are there, they have the kinds of the output, and each query has a column.
use Rattle.std.proofs.Common.{◌≡◌, ◌≢◌, ℕ, zero, suc, ◌+◌, ◌<◌, ◌≤◌, nat_lt, Bool, true, false, ◌||◌, not, cond, List, [], ◌∷◌, ◌++◌, map, length, length-append, None, refl, sym, ap, ◌∙◌, arith}
use Rattle.std.specs.Prelude.{flat_map}
use Rattle.std.specs.List.{All, list_any}
use Rattle.std.specs.Str.{bytes_eq}
use Rattle.std.proofs.lemmas.Bool.{false≢true}
use Rattle.std.proofs.lemmas.List.Elements.{All-head, All-tail}
use Rattle.wt_bag.specs.Bags.{Each}
use Rattle.wt_bag.specs.Choices.{Apart}
use Rattle.wt_bag.proofs.EachLaws.{each_implies, each_append, each_map, each_for}
use Rattle.wt_schema.specs.declared.schema.Column as schema_columns
use Rattle.wt_schema.specs.declared.schema.ColKind.{ColKind}
use Rattle.wt_schema.specs.declared.schema.Table.{Table}
use Rattle.wt_schema.specs.Lawful.{IsSchema, IsTable, width_of}
use Rattle.wt_ast.specs.declared.tree.Item.{Item}
use Rattle.wt_ast.specs.declared.tree.Item.TheVariants.{Star, AllOf, Column}
use Rattle.wt_ast.specs.Lawful.{IsFormed, IsFrom}
use Rattle.wt_ast.specs.Tree.{QueryTree, FromTree, select, table, derived, inner_join, left_join, right_join, comma}
use Rattle.wt_plan.specs.Regular.{upto, kind_at, kinds_at, column_kinds, table_kinds}
use Rattle.wt_plan.proofs.Upto.{length_map, upto_within}
use Rattle.wt_place.proofs.Regularity.{apart_map}
use Rattle.wt_query_rows.specs.declared.scope.ScopeColumn.{ScopeColumn}
use Rattle.wt_query_rows.specs.Scopes.{is_of, columns_named, scope_of}
use Rattle.wt_query_plan.specs.declared.fault.BuildFault.TheVariants as faults
use Rattle.wt_query_plan.specs.Building.{places_where, item_places, kept_by, table_number}
use Rattle.wt_query_plan.specs.Faults.{fault_if, item_fault, items_fault, item_at, item_kinds, query_fault, from_fault, joins_fault, filter_fault, commas_fault, kinds_of, output_kinds}
use Rattle.wt_query_plan.proofs.Lookup.{map_append}
use Rattle.wt_query_plan.proofs.Faultless.{neither}
use Rattle.wt_query_bounds.proofs.Bounded.{no_fault}
use Rattle.wt_regular.proofs.Conditions.{in_sight}

-- ---- numbers below a number

pub apart_upto : (n : ℕ) → Apart (upto n)
apart_upto zero = tt
apart_upto (suc n) = (
  each_map (λ y. 0 ≢ y) suc (upto n) (each_for (upto n) (λ y e. let bad : ⊥ = omega (arith, e) in bad)),
  apart_map suc (λ k. Unit {0}) (λ x y a b e. omega (arith, e)) (upto n) (each_for (upto n) (λ k. tt)) (apart_upto n),
)

kinds_suc : (x : ColKind) (K : List ColKind) (cols : List ℕ) → kinds_at (x ∷ K) (map suc cols) ≡ kinds_at K cols
kinds_suc x K [] = refl
kinds_suc x K (k ∷ cols) = ap (λ l. kind_at K k ∷ l) (kinds_suc x K cols)

pub kinds_upto : (K : List ColKind) → kinds_at K (upto (length K)) ≡ K
kinds_upto [] = refl
kinds_upto (x ∷ K) = ap (λ l. x ∷ l) (kinds_suc x K (upto (length K)) ∙ kinds_upto K)

pub some_length : (xs : List ℕ) → 0 < length xs → xs ≢ []
some_length [] h e = let bad : ⊥ = omega (arith, h) in bad
some_length (x ∷ xs) h e = cc

-- ---- the table of a name

pub named_kinds : (ts : List Table) (name : List ℕ) → table_kinds ts (table_number ts name) ≡ column_kinds (columns_named ts name)
named_kinds [] name = refl
named_kinds (t ∷ ts) name = here (bytes_eq t.name name) (named_kinds ts name)
  where
    here : (b : Bool) → table_kinds ts (table_number ts name) ≡ column_kinds (columns_named ts name) → table_kinds (t ∷ ts) (cond b 0 (suc (table_number ts name))) ≡ column_kinds (cond b t.columns (columns_named ts name))
    here true h = refl
    here false h = h

pub named_width : (ts : List Table) (name : List ℕ) → length (columns_named ts name) ≡ width_of ts (table_number ts name)
named_width [] name = refl
named_width (t ∷ ts) name = here (bytes_eq t.name name) (named_width ts name)
  where
    here : (b : Bool) → length (columns_named ts name) ≡ width_of ts (table_number ts name) → length (cond b t.columns (columns_named ts name)) ≡ width_of (t ∷ ts) (cond b 0 (suc (table_number ts name)))
    here true h = refl
    here false h = h

pub number_known : (ts : List Table) (name : List ℕ) → list_any (λ (t : Table). bytes_eq t.name name) ts ≡ true → table_number ts name < length ts
number_known [] name e = absurd (false≢true e)
number_known (t ∷ ts) name e = here (bytes_eq t.name name) e (number_known ts name)
  where
    here : (b : Bool) → (b || list_any (λ (u : Table). bytes_eq u.name name) ts) ≡ true → (list_any (λ (u : Table). bytes_eq u.name name) ts ≡ true → table_number ts name < length ts) → cond b 0 (suc (table_number ts name)) < length (t ∷ ts)
    here true e more = omega arith
    here false e more = let m = more e in omega (arith, m)

module _ (S : List Table) where
  named_some : (ts : List Table) → All (IsTable S) ts → (name : List ℕ) → list_any (λ (t : Table). bytes_eq t.name name) ts ≡ true → 1 ≤ length (columns_named ts name)
  named_some [] h name e = absurd (false≢true e)
  named_some (t ∷ ts) h name e = let is : IsTable S t = All-head (IsTable S) t ts h in here (bytes_eq t.name name) is.columns.some e (named_some ts (All-tail (IsTable S) t ts h) name)
    where
      here : (b : Bool) → 1 ≤ length t.columns → (b || list_any (λ (u : Table). bytes_eq u.name name) ts) ≡ true → (list_any (λ (u : Table). bytes_eq u.name name) ts ≡ true → 1 ≤ length (columns_named ts name)) → 1 ≤ length (cond b t.columns (columns_named ts name))
      here true h e more = h
      here false h e more = more e

-- ---- items

where_in : (t : ScopeColumn → Bool) (scope : List ScopeColumn) → Each (λ k. k < length scope) (places_where t scope)
where_in t [] = tt
where_in t (s ∷ scope) = here (t s) (each_map (λ k. k < length (s ∷ scope)) suc (places_where t scope) (each_implies (λ k. k < length scope) (λ k. suc k < length (s ∷ scope)) (places_where t scope) (λ k l. omega (arith, l)) (where_in t scope)))
  where
    here : (b : Bool) → Each (λ k. k < length (s ∷ scope)) (map suc (places_where t scope)) → Each (λ k. k < length (s ∷ scope)) (cond b (0 ∷ map suc (places_where t scope)) (map suc (places_where t scope)))
    here true h = (omega arith, h)
    here false h = h

where_some : (t : ScopeColumn → Bool) (scope : List ScopeColumn) → list_any t scope ≡ true → 0 < length (places_where t scope)
where_some t [] e = absurd (false≢true e)
where_some t (s ∷ scope) e = here (t s) e (where_some t scope)
  where
    here : (b : Bool) → (b || list_any t scope) ≡ true → (list_any t scope ≡ true → 0 < length (places_where t scope)) → 0 < length (cond b (0 ∷ map suc (places_where t scope)) (map suc (places_where t scope)))
    here true e more = omega arith
    here false e more = let m = more e in omega (arith, m, length_map suc (places_where t scope))

module _ (outer scope : List ScopeColumn) where
  item_in : (i : Item) → item_fault outer scope i ≡ None → Each (λ k. k < length scope) (item_places scope i)
  item_in (Star at) e = upto_within (length scope)
  item_in (AllOf alias at) e = where_in (is_of alias) scope
  item_in (Column c output) e = (in_sight outer scope c e, tt)

  module _ (ks : List ColKind) where
    pub items_in : (n : ℕ) (items : List Item) → items_fault outer scope ks n items ≡ None → Each (λ k. k < length scope) (flat_map (item_places scope) items)
    items_in n [] e = tt
    items_in n (i ∷ items) e =
        let a = neither (item_fault outer scope i) _ e in
        let b = neither (fault_if (nat_lt 16384 (n + length (item_kinds scope ks i))) faults.TooWide (item_at i)) _ a.1 in
        each_append (λ k. k < length scope) (item_places scope i) (flat_map (item_places scope) items) (item_in i a.0) (items_in (n + length (item_kinds scope ks i)) items b.1)

    item_some : (i : Item) → 0 < length ks → item_fault outer scope i ≡ None → 0 < length (item_kinds scope ks i)
    item_some (Star at) h e = h
    item_some (AllOf alias at) h e = let m = where_some (is_of alias) scope (no_fault _ _ _ e) in omega (arith, m, length_map (kind_at ks) (places_where (is_of alias) scope))
    item_some (Column c output) h e = omega arith

    pub items_some : (n : ℕ) (items : List Item) → 0 < length items → 0 < length ks → items_fault outer scope ks n items ≡ None → 0 < length (flat_map (item_kinds scope ks) items)
    items_some n [] l h e = absurd (let bad : ⊥ = omega (arith, l) in bad)
    items_some n (i ∷ items) l h e =
        let m = item_some i h (neither (item_fault outer scope i) _ e).0 in
        omega (arith, m, length-append (item_kinds scope ks i) (flat_map (item_kinds scope ks) items))

    item_kinds_at : length ks ≡ length scope → (i : Item) → kinds_at ks (item_places scope i) ≡ item_kinds scope ks i
    item_kinds_at e (Star at) = ap (λ n. kinds_at ks (upto n)) (sym e) ∙ kinds_upto ks
    item_kinds_at e (AllOf alias at) = refl
    item_kinds_at e (Column c output) = refl

    pub items_kinds : length ks ≡ length scope → (items : List Item) → kinds_at ks (flat_map (item_places scope) items) ≡ flat_map (item_kinds scope ks) items
    items_kinds e [] = refl
    items_kinds e (i ∷ items) = map_append (kind_at ks) (item_places scope i) (flat_map (item_places scope) items) ∙ (λ j. item_kinds_at e i j ++ items_kinds e items j)

-- ---- each query has an output column

module _ (S : List Table) (lawful : IsSchema S) where
  left_some : (ks ms : List ColKind) → 0 < length ks → 0 < length (ks ++ ms)
  left_some ks ms h = omega (arith, h, length-append ks ms)

  mutual
    pub from_some : (f : FromTree) (outer : List ScopeColumn) (before : List (List ℕ)) → IsFrom f → from_fault S outer before f ≡ None → 0 < length (kinds_of S f)
    from_some (table name alias at alias_at) outer before h e =
        let known : list_any (λ (t : Table). bytes_eq t.name name) S ≡ true = no_fault _ _ _ (neither (fault_if (not (list_any (λ (t : Table). bytes_eq t.name name) S)) faults.UnknownTable at) _ e).0 in
        omega (arith, named_some S S lawful.each name known, length_map (λ (c : schema_columns.Column). c.kind) (columns_named S name))
    from_some (derived q alias columns at alias_at) outer before h e = query_some q outer h.0 (neither (query_fault S outer q) _ e).0
    from_some (inner_join l r on at) outer before h e = left_some (kinds_of S l) (kinds_of S r) (from_some l outer before h.0 (neither (from_fault S outer before l) _ e).0)
    from_some (left_join l r on at) outer before h e = left_some (kinds_of S l) (kinds_of S r) (from_some l outer before h.0 (neither (from_fault S outer before l) _ e).0)
    from_some (right_join l r on at) outer before h e = left_some (kinds_of S l) (kinds_of S r) (from_some l outer before h.0 (neither (from_fault S outer before l) _ e).0)
    from_some (comma l r at) outer before h e = left_some (kinds_of S l) (kinds_of S r) (from_some l outer before h.0 (neither (from_fault S outer before l) _ e).0)

    pub query_some : (q : QueryTree) (outer : List ScopeColumn) → IsFormed q → query_fault S outer q ≡ None → 0 < length (output_kinds S q)
    query_some (select distinct items from keep) outer h e =
        let a = neither (from_fault S outer [] from) _ e in
        let b = neither (joins_fault S outer (scope_of S from) from) _ a.1 in
        let c = neither (filter_fault S outer (scope_of S from) (kinds_of S from) keep) _ b.1 in
        let d = neither (commas_fault S (kept_by S (scope_of S from) keep) from) _ c.1 in
        items_some outer (scope_of S from) (kinds_of S from) 0 items h.0.0 (from_some from outer [] h.1 a.0) d.1
