-- The plan of a query without a fault: how wide it is, and that each of its nodes is narrow.
use Rattle.std.proofs.Common.{◌≡◌, ℕ, ◌+◌, ◌<◌, ◌≤◌, ◌^◌, nat_eq, Bool, true, false, ◌&&◌, not, List, [], ◌∷◌, ◌++◌, map, length, length-append, None, is_some, refl, sym, ◌∙◌, arith}
use Rattle.std.specs.Prelude.{flat_map}
use Rattle.std.specs.Option.{unwrap_or}
use borrow.Author.Tests.{eqb-true}
use Rattle.wt_bag.specs.Bags.{Each}
use Rattle.wt_bag.proofs.EachLaws.{each_implies, each_append, each_map, each_filter}
use Rattle.wt_ast.specs.Tree.{QueryTree, FilterTree, FromTree, CondTree, CondTrees, select, no_filter, filter_by, table, derived, inner_join, left_join, right_join, comma, compare, is_null, is_not_null, in_list, in_query, all_of, any_of, negated, no_conds, cond_then}
use Rattle.wt_ast.specs.declared.tree.Item.{Item}
use Rattle.wt_ast.specs.declared.tree.Item.TheVariants.{Star, AllOf, Column}
use Rattle.wt_schema.specs.declared.schema.Column as schema_columns
use Rattle.wt_schema.specs.declared.schema.ColKind.{ColKind}
use Rattle.wt_schema.specs.declared.schema.Table.{Table}
use Rattle.wt_schema.specs.Lawful.{IsSchema}
use Rattle.wt_plan.specs.Tree.{PlanTree}
use Rattle.wt_plan.specs.Measures.{width}
use Rattle.wt_plan.specs.WellFormed.{Narrow}
use Rattle.wt_plan.proofs.Upto.{length_map, length_upto}
use Rattle.wt_query_rows.specs.declared.scope.ScopeColumn.{ScopeColumn}
use Rattle.wt_query_rows.specs.Scopes.{in_scope, is_of, item_names, columns_named, column_names, scope_of, output_names}
use Rattle.wt_query_plan.specs.Building.{Conjunct, keeps, is_in, conjuncts, all_conjuncts, kept_by, others_of, on_right, pair_of, at_place, stacked, item_places, places_of, planned, from_plan, listed, deduped, is_sole_star, has_right, free_of, links}
use Rattle.wt_query_plan.specs.Faults.{first_of, fault_if, query_fault, from_fault, joins_fault, filter_fault, cond_fault, conds_fault, columns_fault, kinds_of, aliases_of}
use Rattle.wt_query_plan.proofs.Faultless.{neither}
use Rattle.wt_query_plan.proofs.Stacking.{width_stacked}
use Rattle.wt_query_bounds.specs.Bounds.{items_in, items_in_filter, items_in_from, items_in_cond, items_in_conds}
use Rattle.wt_query_bounds.proofs.Bounded.{no_fault, where_length, from_few, query_few, query_even, table_few}

item_length : (scope : List ScopeColumn) (i : Item) → length (item_places scope i) ≡ length (item_names scope i)
item_length scope (Star at) = length_upto (length scope) ∙ sym (length_map (λ (s : ScopeColumn). s.name) scope)
item_length scope (AllOf alias at) = where_length (is_of alias) scope
item_length scope (Column column output) = refl

items_length : (scope : List ScopeColumn) (items : List Item) → length (flat_map (item_places scope) items) ≡ length (flat_map (item_names scope) items)
items_length scope [] = refl
items_length scope (i ∷ items) = omega (arith, length-append (item_places scope i) (flat_map (item_places scope) items), length-append (item_names scope i) (flat_map (item_names scope) items), item_length scope i, items_length scope items)

deduped_width : (b : Bool) (p : PlanTree) → width (deduped b p) ≡ width p
deduped_width true p = refl
deduped_width false p = refl

star_names : (scope : List ScopeColumn) (items : List Item) → is_sole_star items ≡ true → length scope ≡ length (flat_map (item_names scope) items)
star_names scope [] e = cc
star_names scope (Star at ∷ []) e = omega (arith, length_map (λ (s : ScopeColumn). s.name) scope, length-append (map (λ (s : ScopeColumn). s.name) scope) [])
star_names scope (Star at ∷ i ∷ items) e = cc
star_names scope (AllOf alias at ∷ items) e = cc
star_names scope (Column column output ∷ items) e = cc

listed_width : (scope : List ScopeColumn) (items : List Item) (other : Bool) (f : ℕ → ℕ) (p : PlanTree) → width p ≡ length scope → width (listed (is_sole_star items && other) (map f (flat_map (item_places scope) items)) p) ≡ length (flat_map (item_names scope) items)
listed_width scope items other f p w = here (is_sole_star items) other refl
  where
    cols : width (listed false (map f (flat_map (item_places scope) items)) p) ≡ length (flat_map (item_names scope) items)
    cols = length_map f (flat_map (item_places scope) items) ∙ items_length scope items

    here : (b c : Bool) → is_sole_star items ≡ b → width (listed (b && c) (map f (flat_map (item_places scope) items)) p) ≡ length (flat_map (item_names scope) items)
    here true true e = w ∙ star_names scope items e
    here true false e = cols
    here false c e = cols

module _ (S : List Table) where
  mutual
    pub from_width : (f : FromTree) (ws : List Conjunct) (outer : List ScopeColumn) (before : List (List ℕ)) → from_fault S outer before f ≡ None → width (from_plan S ws f) ≡ length (scope_of S f)
    from_width (table name alias at alias_at) ws outer before e =
        sym (length_map (in_scope (unwrap_or alias name)) (column_names (columns_named S name)) ∙ length_map (λ (c : schema_columns.Column). c.name) (columns_named S name))
    from_width (derived q alias columns at alias_at) ws outer before e =
        let a = neither (query_fault S outer q) _ e in
        let b = neither (fault_if (not (nat_eq (length (unwrap_or columns (output_names S q))) (length (output_names S q)))) _ alias_at) _ a.1 in
        query_width q outer a.0 ∙ sym (eqb-true _ _ (no_fault _ _ _ b.0)) ∙ sym (length_map (in_scope alias) (unwrap_or columns (output_names S q)))
    from_width (comma l r at) ws outer before e =
        let a = neither (from_fault S outer before l) _ e in
        omega (arith, from_width l ws outer before a.0, from_width r [] outer _ a.1, length-append (scope_of S l) (scope_of S r))
    from_width (inner_join l r on at) ws outer before e =
        let a = neither (from_fault S outer before l) _ e in
        let js = conjuncts S (scope_of S l ++ scope_of S r) on in
        width_stacked [] (places_of S (inner_join l r on at)) (others_of (length (scope_of S l)) js) _ ∙ omega (arith, from_width l [] outer before a.0, from_width r [] outer _ a.1, length-append (scope_of S l) (scope_of S r))
    from_width (left_join l r on at) ws outer before e =
        let a = neither (from_fault S outer before l) _ e in
        let js = conjuncts S (scope_of S l ++ scope_of S r) on in
        omega (arith, width_stacked [] (places_of S r) (map (on_right (length (scope_of S l))) (others_of (length (scope_of S l)) js)) (from_plan S [] r), from_width l [] outer before a.0, from_width r [] outer _ a.1, length-append (scope_of S l) (scope_of S r))
    from_width (right_join l r on at) ws outer before e =
        let a = neither (from_fault S outer before l) _ e in
        let js = conjuncts S (scope_of S l ++ scope_of S r) on in
        omega (arith, width_stacked [] (places_of S l) (others_of (length (scope_of S l)) js) (from_plan S [] l), from_width l [] outer before a.0, from_width r [] outer _ a.1, length-append (scope_of S l) (scope_of S r))

    pub query_width : (q : QueryTree) (outer : List ScopeColumn) → query_fault S outer q ≡ None → width (planned S q) ≡ length (output_names S q)
    query_width (select distinct items from keep) outer e =
        let ws = kept_by S (scope_of S from) keep in
        let a = neither (from_fault S outer [] from) _ e in
        deduped_width distinct _
        ∙ listed_width (scope_of S from) items (not (has_right from)) (at_place (places_of S from)) (stacked (places_of S from) (free_of S from ws) (from_plan S ws from))
        (width_stacked [] (places_of S from) (free_of S from ws) (from_plan S ws from) ∙ from_width from ws outer [] a.0)

  abbrev MemberNarrow : Conjunct → Type 0
  MemberNarrow (keeps p) = Unit {0}
  MemberNarrow (is_in cols q) = Narrow q

  stacked_narrow : (places : List ℕ) (js : List Conjunct) (plan : PlanTree) → Each MemberNarrow js → Narrow plan → Narrow (stacked places js plan)
  stacked_narrow places [] plan h k = k
  stacked_narrow places (keeps p ∷ js) plan h k = stacked_narrow places js _ h.1 k
  stacked_narrow places (is_in cols q ∷ js) plan h k = stacked_narrow places js _ h.1 (k, h.0)

  member_right : (n : ℕ) (j : Conjunct) → MemberNarrow j → MemberNarrow (on_right n j)
  member_right n (keeps p) h = h
  member_right n (is_in cols q) h = h

  listed_narrow : (b : Bool) (cols : List ℕ) (plan : PlanTree) → length cols < 2 ^ 32 → Narrow plan → Narrow (listed b cols plan)
  listed_narrow true cols plan h k = k
  listed_narrow false cols plan h k = (h, k)

  deduped_narrow : (b : Bool) (plan : PlanTree) → Narrow plan → Narrow (deduped b plan)
  deduped_narrow true plan k = k
  deduped_narrow false plan k = k

  module _ (lawful : IsSchema S) where
    both_narrow : (l r : FromTree) (n w v : ℕ) (outer : List ScopeColumn) (before : List (List ℕ)) → (items_in_from l + items_in_from r) + n ≤ 256 → first_of (from_fault S outer before l) (from_fault S outer (before ++ aliases_of l) r) ≡ None
        → w ≡ length (scope_of S l) → v ≡ length (scope_of S r) → w + v < 2 ^ 32
    both_narrow l r n w v outer before small e f g =
        let a = neither (from_fault S outer before l) _ e in
        omega (arith, small, f, g, from_few S lawful l outer before a.0, from_few S lawful r outer _ a.1)

    mutual
      pub query_narrow : (q : QueryTree) (outer : List ScopeColumn) → items_in q ≤ 256 → query_fault S outer q ≡ None → Narrow (planned S q)
      query_narrow (select distinct items from keep) outer small e =
          let ws = kept_by S (scope_of S from) keep in
          let a = neither (from_fault S outer [] from) _ e in
          let b = neither (joins_fault S outer (scope_of S from) from) _ a.1 in
          let c = neither (filter_fault S outer (scope_of S from) (kinds_of S from) keep) _ b.1 in
          let few : length (map (at_place (places_of S from)) (flat_map (item_places (scope_of S from)) items)) < 2 ^ 32 =
          omega (arith, length_map (at_place (places_of S from)) (flat_map (item_places (scope_of S from)) items), items_length (scope_of S from) items, query_even S (select distinct items from keep) outer e, query_few S (select distinct items from keep) outer e) in
          deduped_narrow distinct _ (listed_narrow (is_sole_star items && not (has_right from)) _ _ few
          (stacked_narrow (places_of S from) (free_of S from ws) (from_plan S ws from) (each_filter MemberNarrow (λ j. not (links S from j)) ws (filter_narrow keep outer (scope_of S from) (kinds_of S from) (omega (arith, small)) c.0))
          (from_narrow from ws outer [] (scope_of S from) (omega (arith, small)) a.0 b.0)))

      filter_narrow : (k : FilterTree) (outer block : List ScopeColumn) (ks : List ColKind) → items_in_filter k ≤ 256 → filter_fault S outer block ks k ≡ None → Each MemberNarrow (kept_by S block k)
      filter_narrow no_filter outer block ks small e = tt
      filter_narrow (filter_by c) outer block ks small e = cond_narrow c outer block block ks small e

      from_narrow : (f : FromTree) (ws : List Conjunct) (outer : List ScopeColumn) (before : List (List ℕ)) (block : List ScopeColumn) → items_in_from f ≤ 256 → from_fault S outer before f ≡ None → joins_fault S outer block f ≡ None → Narrow (from_plan S ws f)
      from_narrow (table name alias at alias_at) ws outer before block small e k = omega (arith, table_few S lawful name)
      from_narrow (derived q alias columns at alias_at) ws outer before block small e k = query_narrow q outer (omega (arith, small)) (neither (query_fault S outer q) _ e).0
      from_narrow (comma l r at) ws outer before block small e k =
          let a = neither (from_fault S outer before l) _ e in
          let b = neither (joins_fault S outer block l) _ k in (
            both_narrow l r 0 _ _ outer before (omega (arith, small)) e (from_width l ws outer before a.0) (from_width r [] outer _ a.1),
            from_narrow l ws outer before block (omega (arith, small)) a.0 b.0,
            from_narrow r [] outer _ block (omega (arith, small)) a.1 b.1,
          )
      from_narrow (inner_join l r on at) ws outer before block small e k =
          let a = neither (from_fault S outer before l) _ e in
          let o = neither (first_of (joins_fault S outer block l) (joins_fault S outer block r)) _ k in
          let b = neither (joins_fault S outer block l) (joins_fault S outer block r) o.0 in
          let d = neither (cond_fault S outer block (scope_of S l ++ scope_of S r) (kinds_of S l ++ kinds_of S r) on) _ o.1 in
          let js = conjuncts S (scope_of S l ++ scope_of S r) on in
          stacked_narrow (places_of S (inner_join l r on at)) (others_of (length (scope_of S l)) js) _
          (each_filter MemberNarrow (λ j. not (is_some (pair_of (length (scope_of S l)) j))) js (cond_narrow on outer block (scope_of S l ++ scope_of S r) (kinds_of S l ++ kinds_of S r) (omega (arith, small)) d.0)) (
            both_narrow l r (items_in_cond on) _ _ outer before small e (from_width l [] outer before a.0) (from_width r [] outer _ a.1),
            from_narrow l [] outer before block (omega (arith, small)) a.0 b.0,
            from_narrow r [] outer _ block (omega (arith, small)) a.1 b.1,
          )
      from_narrow (left_join l r on at) ws outer before block small e k =
          let a = neither (from_fault S outer before l) _ e in
          let o = neither (first_of (joins_fault S outer block l) (joins_fault S outer block r)) _ k in
          let b = neither (joins_fault S outer block l) (joins_fault S outer block r) o.0 in
          let d = neither (cond_fault S outer block (scope_of S l ++ scope_of S r) (kinds_of S l ++ kinds_of S r) on) _ o.1 in
          let n = length (scope_of S l) in
          let js = conjuncts S (scope_of S l ++ scope_of S r) on in
          let os = map (on_right n) (others_of n js) in (
            both_narrow l r (items_in_cond on) _ _ outer before small e (from_width l [] outer before a.0) (width_stacked [] (places_of S r) os (from_plan S [] r) ∙ from_width r [] outer _ a.1),
            from_narrow l [] outer before block (omega (arith, small)) a.0 b.0,
            stacked_narrow (places_of S r) os (from_plan S [] r)
                (each_map MemberNarrow (on_right n) (others_of n js) (each_implies MemberNarrow (λ j. MemberNarrow (on_right n j)) (others_of n js) (member_right n)
                (each_filter MemberNarrow (λ j. not (is_some (pair_of n j))) js (cond_narrow on outer block (scope_of S l ++ scope_of S r) (kinds_of S l ++ kinds_of S r) (omega (arith, small)) d.0))))
                (from_narrow r [] outer _ block (omega (arith, small)) a.1 b.1),
          )
      from_narrow (right_join l r on at) ws outer before block small e k =
          let a = neither (from_fault S outer before l) _ e in
          let o = neither (first_of (joins_fault S outer block l) (joins_fault S outer block r)) _ k in
          let b = neither (joins_fault S outer block l) (joins_fault S outer block r) o.0 in
          let d = neither (cond_fault S outer block (scope_of S l ++ scope_of S r) (kinds_of S l ++ kinds_of S r) on) _ o.1 in
          let n = length (scope_of S l) in
          let js = conjuncts S (scope_of S l ++ scope_of S r) on in
          let wl = width_stacked [] (places_of S l) (others_of n js) (from_plan S [] l) ∙ from_width l [] outer before a.0 in
          let both = both_narrow l r (items_in_cond on) _ _ outer before small e wl (from_width r [] outer _ a.1) in (
            omega (arith, both),
            from_narrow r [] outer _ block (omega (arith, small)) a.1 b.1,
            stacked_narrow (places_of S l) (others_of n js) (from_plan S [] l)
                (each_filter MemberNarrow (λ j. not (is_some (pair_of n j))) js (cond_narrow on outer block (scope_of S l ++ scope_of S r) (kinds_of S l ++ kinds_of S r) (omega (arith, small)) d.0))
                (from_narrow l [] outer before block (omega (arith, small)) a.0 b.0),
          )

      cond_narrow : (c : CondTree) (outer block scope : List ScopeColumn) (ks : List ColKind) → items_in_cond c ≤ 256 → cond_fault S outer block scope ks c ≡ None → Each MemberNarrow (conjuncts S scope c)
      cond_narrow (all_of at cs) outer block scope ks small e = conds_narrow cs outer block scope ks small e
      cond_narrow (in_query at cs q word_at) outer block scope ks small e =
          let a = neither (columns_fault outer scope cs) _ e in
          (query_narrow q (outer ++ block) small (neither (query_fault S (outer ++ block) q) _ a.1).0, tt)
      cond_narrow (compare at sign a b word_at) outer block scope ks small e = (tt, tt)
      cond_narrow (is_null at c) outer block scope ks small e = (tt, tt)
      cond_narrow (is_not_null at c) outer block scope ks small e = (tt, tt)
      cond_narrow (in_list at c vs word_at) outer block scope ks small e = (tt, tt)
      cond_narrow (any_of at cs) outer block scope ks small e = (tt, tt)
      cond_narrow (negated at c) outer block scope ks small e = (tt, tt)

      conds_narrow : (cs : CondTrees) (outer block scope : List ScopeColumn) (ks : List ColKind) → items_in_conds cs ≤ 256 → conds_fault S outer block scope ks cs ≡ None → Each MemberNarrow (all_conjuncts S scope cs)
      conds_narrow no_conds outer block scope ks small e = tt
      conds_narrow (cond_then c cs) outer block scope ks small e =
          let a = neither (cond_fault S outer block scope ks c) _ e in
          each_append MemberNarrow (conjuncts S scope c) (all_conjuncts S scope cs) (cond_narrow c outer block scope ks (omega (arith, small)) a.0) (conds_narrow cs outer block scope ks (omega (arith, small)) a.1)
