-- The plan of a query without a fault is regular.
use Rattle.std.proofs.Common.{◌≡◌, ◌≢◌, ℕ, ◌*◌, ◌<◌, ◌≤◌, nat_lt, nat_eq, Bool, true, false, ◌&&◌, not, List, [], ◌∷◌, ◌++◌, append-nil, append_assoc, map, length, None, is_some, refl, sym, ap, subst, ◌∙◌, arith}
use Rattle.std.specs.Prelude.{flat_map}
use Rattle.std.specs.List.{list_any}
use Rattle.std.specs.Str.{bytes_eq}
use borrow.Author.Tests.{eqb-true}
use Rattle.wt_bag.specs.Bags.{Each}
use Rattle.wt_bag.proofs.EachLaws.{each_append, each_filter}
use Rattle.wt_pred.specs.Columns.{occurring}
use Rattle.wt_ast.specs.declared.tree.ColumnName.{ColumnName}
use Rattle.wt_ast.specs.declared.tree.Item.{Item}
use Rattle.wt_ast.specs.declared.tree.Item.TheVariants.{Star, AllOf, Column}
use Rattle.wt_ast.specs.Lawful.{IsFormed, IsFilter, IsFrom, IsCond, AreConds, IsLawful, is_comma}
use Rattle.wt_ast.specs.Tree.{QueryTree, FilterTree, FromTree, CondTree, CondTrees, select, no_filter, filter_by, table, derived, inner_join, left_join, right_join, comma, compare, is_null, is_not_null, in_list, in_query, all_of, any_of, negated, no_conds, cond_then}
use Rattle.wt_schema.specs.declared.schema.ColKind.{ColKind}
use Rattle.wt_schema.specs.declared.schema.Table.{Table}
use Rattle.wt_schema.specs.Lawful.{IsSchema}
use Rattle.wt_plan.specs.Tree.{PlanTree}
use Rattle.wt_plan.specs.Tree as plans
use Rattle.wt_plan.specs.Measures.{width, cost, node_count}
use Rattle.wt_plan.specs.WellFormed.{PlacesFit}
use Rattle.wt_plan.specs.Regular.{upto, kind_at, kinds_at, plan_kinds, IsNoAnd, RegularNodes, Regular}
use Rattle.wt_plan.proofs.Upto.{length_map, upto_within}
use Rattle.wt_place.proofs.Regularity.{kinds_length}
use Rattle.wt_query_rows.specs.declared.scope.ScopeColumn.{ScopeColumn}
use Rattle.wt_query_rows.specs.Scopes.{columns_named, scope_of}
use Rattle.wt_query_plan.specs.declared.fault.BuildFault.TheVariants as faults
use Rattle.wt_query_plan.specs.Building.{Conjunct, keeps, is_in, conjuncts, all_conjuncts, kept_by, pair_of, links, free_of, at_place, stacked, place_of, pred_of, item_places, places_of, planned, from_plan, listed, deduped, is_sole_star, has_right, table_number}
use Rattle.wt_query_plan.specs.Faults.{first_of, fault_if, query_fault, from_fault, joins_fault, filter_fault, cond_fault, conds_fault, columns_fault, test_fault, commas_fault, outer_fault, conjunct_places, unpaired, kinds_of, output_kinds, item_kinds, column_kind, is_empty}
use Rattle.wt_query_plan.proofs.Faultless.{neither, from_stands}
use Rattle.wt_query_plan.proofs.Selecting.{text_order}
use Rattle.wt_query_plan.proofs.Stacking.{width_stacked}
use Rattle.wt_query_bounds.specs.Bounds.{items_in, conjuncts_in}
use Rattle.wt_query_bounds.proofs.Clauses.{even_all}
use Rattle.wt_query_bounds.proofs.Bounded.{no_fault, from_even, query_even, query_few}
use Rattle.wt_query_bounds.proofs.Narrowing.{from_width, query_width, query_narrow}
use Rattle.wt_query_bounds.proofs.Counting.{query_nodes}
use Rattle.wt_limits.proofs.Marked.{items_marked, conjuncts_marked}
use Rattle.wt_regular.proofs.Conjuncts.{not_empty, Good, Part, part_kinds, part_below, part_stacked}
use Rattle.wt_regular.proofs.Joined.{comma_regular, inner_regular, left_regular, right_regular}
use Rattle.wt_regular.proofs.Conditions.{same_kinds, some_columns, constants_of, all_in_sight, test_in, test_typed}
use Rattle.wt_regular.proofs.Items as the_items
use Rattle.wt_regular.proofs.Items.{apart_upto, kinds_upto, some_length, named_kinds, named_width, number_known, items_kinds, from_some, query_some}

-- a clause that is no comma list has no comma without a link
no_commas : (S : List Table) (ws : List Conjunct) (f : FromTree) → is_comma f ≡ false → commas_fault S ws f ≡ None
no_commas S ws (table name alias at alias_at) e = refl
no_commas S ws (derived q alias columns at alias_at) e = refl
no_commas S ws (inner_join l r on at) e = refl
no_commas S ws (left_join l r on at) e = refl
no_commas S ws (right_join l r on at) e = refl
no_commas S ws (comma l r at) e = cc

-- a query's plan, of which its output has the kinds
pub record Answering (S : List Table) (ks : List ColKind) (plan : PlanTree) : Type 0 where
  pub fit : PlacesFit plan
  pub nodes : RegularNodes S plan
  pub kinds : plan_kinds S plan ≡ ks

leaf_part : (S : List Table) (K : List ColKind) (n : ℕ) (plan : PlanTree) → length K ≡ n → width plan ≡ n → Answering S K plan → Part S K (upto n) plan
leaf_part S K n plan e w h = record {
  apart = apart_upto n;
  within = subst (λ m. Each (λ k. k < m) (upto n)) (sym w) (upto_within n);
  kinds = (λ i. kinds_at (h.kinds i) (upto (sym e i))) ∙ kinds_upto K;
  fit = h.fit;
  nodes = h.nodes;
}

-- the kinds of a list of columns
listed_kinds : (scope : List ScopeColumn) (ks : List ColKind) (cs : List ColumnName) → kinds_at ks (map (place_of scope) cs) ≡ map (column_kind scope ks) cs
listed_kinds scope ks [] = refl
listed_kinds scope ks (c ∷ cs) = ap (λ l. column_kind scope ks c ∷ l) (listed_kinds scope ks cs)

star_kinds : (scope : List ScopeColumn) (ks : List ColKind) (items : List Item) → is_sole_star items ≡ true → flat_map (item_kinds scope ks) items ≡ ks
star_kinds scope ks [] e = cc
star_kinds scope ks (Star at ∷ []) e = append-nil ks
star_kinds scope ks (Star at ∷ i ∷ items) e = cc
star_kinds scope ks (AllOf alias at ∷ items) e = cc
star_kinds scope ks (Column column output ∷ items) e = cc

not_false : (b : Bool) → not b ≡ true → b ≡ false
not_false true e = cc
not_false false e = refl

-- the select list and DISTINCT over a plan
module _ (S : List Table) (scope : List ScopeColumn) (ks : List ColKind) (even : length ks ≡ length scope) (places : List ℕ) (plan : PlanTree) (h : Part S ks places plan) (wide : width plan ≡ length scope) where
  in_text_order : places ≡ upto (length scope) → plan_kinds S plan ≡ ks
  in_text_order e =
      let is : length (plan_kinds S plan) ≡ length scope = kinds_length S plan h.nodes ∙ wide in
      sym (kinds_upto (plan_kinds S plan)) ∙ (λ i. kinds_at (plan_kinds S plan) (upto (is i))) ∙ ap (kinds_at (plan_kinds S plan)) (sym e) ∙ h.kinds

  module _ (cols : List ℕ) (low : Each (λ k. k < length scope) cols) (some : cols ≢ []) (few : length cols ≤ 16384) where
    low_kinds : Each (λ k. k < length ks) cols
    low_kinds = subst (λ m. Each (λ k. k < m) cols) (sym even) low

    projected : Answering S (kinds_at ks cols) (plans.proj (map (at_place places) cols) plan)
    projected = record {
      fit = (record { some = not_empty (at_place places) cols some; within = part_below S ks places plan h cols low_kinds }, h.fit);
      nodes = (subst (λ m. m ≤ 16384) (sym (length_map (at_place places) cols)) few, h.nodes);
      kinds = part_kinds S ks places plan h cols low_kinds;
    }

  selected : (items : List Item) (right : Bool) → (right ≡ false → places ≡ upto (length scope)) → Each (λ k. k < length scope) (flat_map (item_places scope) items)
      → 0 < length (flat_map (item_kinds scope ks) items) → length (flat_map (item_kinds scope ks) items) ≤ 16384
      → Answering S (flat_map (item_kinds scope ks) items) (listed (is_sole_star items && not right) (map (at_place places) (flat_map (item_places scope) items)) plan)
  selected items right order low some few = here (is_sole_star items) right refl refl
    where
      cols : Answering S (flat_map (item_kinds scope ks) items) (plans.proj (map (at_place places) (flat_map (item_places scope) items)) plan)
      cols =
          let many : length (flat_map (item_places scope) items) ≡ length (flat_map (item_kinds scope ks) items) = sym (length_map (kind_at ks) (flat_map (item_places scope) items)) ∙ ap length (items_kinds [] scope ks even items) in
          let p = projected (flat_map (item_places scope) items) low (some_length (flat_map (item_places scope) items) (omega (arith, some, many))) (omega (arith, few, many)) in
          record { fit = p.fit; nodes = p.nodes; kinds = p.kinds ∙ items_kinds [] scope ks even items }

      here : (b c : Bool) → is_sole_star items ≡ b → right ≡ c → Answering S (flat_map (item_kinds scope ks) items) (listed (b && not c) (map (at_place places) (flat_map (item_places scope) items)) plan)
      here true false e f = record { fit = h.fit; nodes = h.nodes; kinds = in_text_order (order f) ∙ sym (star_kinds scope ks items e) }
      here true true e f = cols
      here false c e f = cols

distinct_part : (S : List Table) (ks : List ColKind) (b : Bool) (plan : PlanTree) → width plan ≤ 16384 → Answering S ks plan → Answering S ks (deduped b plan)
distinct_part S ks true plan few h = record { fit = h.fit; nodes = (few, h.nodes); kinds = h.kinds }
distinct_part S ks false plan few h = h

module _ (S : List Table) (lawful : IsSchema S) where
  module _ (outer scope : List ScopeColumn) (ks : List ColKind) (even : length ks ≡ length scope) where
    -- a conjunct that is no AND and no subquery
    kept_good : (c : CondTree) (at : ℕ) → IsCond c → IsNoAnd (pred_of scope c)
        → first_of (test_fault outer scope ks c) (fault_if (is_empty (occurring (pred_of scope c))) faults.ConditionWithoutColumn at) ≡ None → Each (Good S ks) (keeps (pred_of scope c) ∷ [])
    kept_good c at h plain e =
        let a = neither (test_fault outer scope ks c) _ e in
        ((subst (λ m. Each (λ k. k < m) (occurring (pred_of scope c))) (sym even) (test_in outer scope ks c a.0), some_columns (occurring (pred_of scope c)) faults.ConditionWithoutColumn at a.1, plain, test_typed outer scope ks c a.0, constants_of scope c h), tt)

    query_width_kinds : (q : QueryTree) (o : List ScopeColumn) → query_fault S o q ≡ None → width (planned S q) ≡ length (output_kinds S q)
    query_width_kinds q o e = query_width S q o e ∙ sym (query_even S q o e)

    member_good : (cs : List ColumnName) (q : QueryTree) (o : List ScopeColumn) → columns_fault outer scope cs ≡ None → IsFormed q → query_fault S o q ≡ None
        → length cs ≡ length (output_kinds S q) → map (column_kind scope ks) cs ≡ output_kinds S q → Answering S (output_kinds S q) (planned S q) → Each (Good S ks) (is_in (map (place_of scope) cs) (planned S q) ∷ [])
    member_good cs q o a formed e many same h =
        let w = query_width_kinds q o e in
        let there = length_map (place_of scope) cs in (
          (
            subst (λ m. Each (λ k. k < m) (map (place_of scope) cs)) (sym even) (all_in_sight outer scope cs a),
            some_length (map (place_of scope) cs) (omega (arith, there, many, query_some S lawful q o formed e)),
            listed_kinds scope ks cs ∙ same ∙ sym h.kinds,
            there ∙ many ∙ sym w,
            omega (arith, w, query_few S q o e),
            h.fit,
            h.nodes,
          ),
          tt,
        )

  clause_even : (f : FromTree) (outer : List ScopeColumn) (before : List (List ℕ)) → from_fault S outer before f ≡ None → length (kinds_of S f) ≡ length (scope_of S f)
  clause_even f outer before e = even_all S f (from_even S f outer before e)

  paired : (n : ℕ) (js : List Conjunct) (at : ℕ) → fault_if (unpaired n js) faults.NoJoinEquality at ≡ None → list_any (λ j. is_some (pair_of n j)) js ≡ true
  paired n js at e = no_fault _ _ _ e

  mutual
    pub query_regular : (q : QueryTree) (outer : List ScopeColumn) → IsFormed q → query_fault S outer q ≡ None → Answering S (output_kinds S q) (planned S q)
    query_regular (select distinct items from keep) outer h e =
        let q = select distinct items from keep in
        let scope = scope_of S from in
        let ks = kinds_of S from in
        let ws = kept_by S scope keep in
        let a = neither (from_fault S outer [] from) _ e in
        let b = neither (joins_fault S outer scope from) _ a.1 in
        let c = neither (filter_fault S outer scope ks keep) _ b.1 in
        let d = neither (commas_fault S ws from) _ c.1 in
        let even = clause_even from outer [] a.0 in
        let good : Each (Good S ks) ws = filter_good keep outer scope ks even h.2 c.0 in
        let base = from_regular from ws [] outer [] scope h.1 a.0 b.0 d.0 (subst (λ ms. Each (Good S ms) ws) (sym (append-nil ks)) good) in
        let plan = stacked (places_of S from) (free_of S from ws) (from_plan S ws from) in
        let over = part_stacked S ks (places_of S from) (free_of S from ws) (from_plan S ws from) (each_filter (Good S ks) (λ j. not (links S from j)) ws good) base in
        let wide : width plan ≡ length scope = width_stacked [] (places_of S from) (free_of S from ws) (from_plan S ws from) ∙ from_width S from ws outer [] a.0 in
        let few = query_few S q outer e in
        let chosen = listed (is_sole_star items && not (has_right from)) (map (at_place (places_of S from)) (flat_map (item_places scope) items)) plan in
        let list : Answering S (output_kinds S q) chosen = selected S scope ks even (places_of S from) plan over wide items (has_right from) (text_order S from) (the_items.items_in outer scope ks 0 items d.1) (query_some S lawful q outer h e) few in
        distinct_part S (output_kinds S q) distinct chosen (subst (λ m. m ≤ 16384) (ap length (sym list.kinds) ∙ kinds_length S chosen list.nodes) few) list

    filter_good : (k : FilterTree) (outer block : List ScopeColumn) (ks : List ColKind) → length ks ≡ length block → IsFilter k → filter_fault S outer block ks k ≡ None → Each (Good S ks) (kept_by S block k)
    filter_good no_filter outer block ks even h e = tt
    filter_good (filter_by c) outer block ks even h e = cond_good c outer block block ks even h e

    from_regular : (f : FromTree) (ws : List Conjunct) (rest : List ColKind) (outer : List ScopeColumn) (before : List (List ℕ)) (block : List ScopeColumn) → IsFrom f → from_fault S outer before f ≡ None → joins_fault S outer block f ≡ None
        → commas_fault S ws f ≡ None → Each (Good S (kinds_of S f ++ rest)) ws → Part S (kinds_of S f) (places_of S f) (from_plan S ws f)
    from_regular (table name alias at alias_at) ws rest outer before block h e k c g =
        let known = no_fault _ _ _ (neither (fault_if (not (list_any (λ (t : Table). bytes_eq t.name name) S)) faults.UnknownTable at) _ e).0 in
        leaf_part S (kinds_of S (table name alias at alias_at)) (length (scope_of S (table name alias at alias_at))) (plans.table (table_number S name) (length (columns_named S name)))
        (clause_even (table name alias at alias_at) outer before e) (from_width S (table name alias at alias_at) ws outer before e)
        (record { fit = tt; nodes = (number_known S name known, named_width S name); kinds = named_kinds S name })
    from_regular (derived q alias columns at alias_at) ws rest outer before block h e k c g =
        leaf_part S (output_kinds S q) (length (scope_of S (derived q alias columns at alias_at))) (planned S q)
        (clause_even (derived q alias columns at alias_at) outer before e) (from_width S (derived q alias columns at alias_at) ws outer before e)
        (query_regular q outer h.0 (neither (query_fault S outer q) _ e).0)
    from_regular (comma l r at) ws rest outer before block h e k c g =
        let a = neither (from_fault S outer before l) _ e in
        let b = neither (joins_fault S outer block l) _ k in
        let d = neither (commas_fault S ws l) _ c in
        let kl = kinds_of S l in
        let kr = kinds_of S r in
        let even = clause_even (comma l r at) outer before e in
        comma_regular S kl kr (places_of S l) (places_of S r) (from_plan S ws l) (from_plan S [] r)
        (from_regular l ws (kr ++ rest) outer before block h.0 a.0 b.0 d.0 (subst (λ ms. Each (Good S ms) ws) (append_assoc kl kr rest) g))
        (from_regular r [] [] outer _ block h.1 a.1 b.1 (no_commas S [] r h.2) tt)
        (length (scope_of S l)) (from_width S l ws outer before a.0) (clause_even l outer before a.0) (length (scope_of S r)) (from_width S r [] outer _ a.1)
        rest (length (scope_of S l ++ scope_of S r)) even ws g (no_fault _ _ _ d.1)
    from_regular (inner_join l r on at) ws rest outer before block h e k c g =
        let a = neither (from_fault S outer before l) _ e in
        let o = neither (first_of (joins_fault S outer block l) (joins_fault S outer block r)) _ k in
        let b = neither (joins_fault S outer block l) (joins_fault S outer block r) o.0 in
        let d = neither (cond_fault S outer block (scope_of S l ++ scope_of S r) (kinds_of S l ++ kinds_of S r) on) _ o.1 in
        let js = conjuncts S (scope_of S l ++ scope_of S r) on in
        inner_regular S (kinds_of S l) (kinds_of S r) (places_of S l) (places_of S r) (from_plan S [] l) (from_plan S [] r)
        (from_regular l [] [] outer before block h.0 a.0 b.0 (no_commas S [] l h.1) tt)
        (from_regular r [] [] outer _ block h.2 a.1 b.1 (no_commas S [] r h.3) tt)
        (length (scope_of S l)) (from_width S l [] outer before a.0) (clause_even l outer before a.0) (length (scope_of S r)) (from_width S r [] outer _ a.1)
        js (cond_good on outer block (scope_of S l ++ scope_of S r) (kinds_of S l ++ kinds_of S r) (clause_even (inner_join l r on at) outer before e) h.4 d.0)
        (paired (length (scope_of S l)) js at d.1)
    from_regular (left_join l r on at) ws rest outer before block h e k c g =
        let a = neither (from_fault S outer before l) _ e in
        let o = neither (first_of (joins_fault S outer block l) (joins_fault S outer block r)) _ k in
        let b = neither (joins_fault S outer block l) (joins_fault S outer block r) o.0 in
        let d = neither (cond_fault S outer block (scope_of S l ++ scope_of S r) (kinds_of S l ++ kinds_of S r) on) _ o.1 in
        let js = conjuncts S (scope_of S l ++ scope_of S r) on in
        let n = length (scope_of S l) in
        let p = neither (outer_fault (λ i. not (nat_lt i n)) n js (conjunct_places on)) _ d.1 in
        let stands = from_stands S (left_join l r on at) outer before block e k in
        left_regular S (kinds_of S l) (kinds_of S r) (places_of S l) (places_of S r) (from_plan S [] l) (from_plan S [] r)
        (from_regular l [] [] outer before block h.0 a.0 b.0 (no_commas S [] l h.1) tt)
        (from_regular r [] [] outer _ block h.2 a.1 b.1 (no_commas S [] r h.3) tt)
        n (from_width S l [] outer before a.0) (clause_even l outer before a.0) (length (scope_of S r)) (from_width S r [] outer _ a.1)
        js (cond_good on outer block (scope_of S l ++ scope_of S r) (kinds_of S l ++ kinds_of S r) (clause_even (left_join l r on at) outer before e) h.4 d.0)
        (paired n js at p.1) stands.3
    from_regular (right_join l r on at) ws rest outer before block h e k c g =
        let a = neither (from_fault S outer before l) _ e in
        let o = neither (first_of (joins_fault S outer block l) (joins_fault S outer block r)) _ k in
        let b = neither (joins_fault S outer block l) (joins_fault S outer block r) o.0 in
        let d = neither (cond_fault S outer block (scope_of S l ++ scope_of S r) (kinds_of S l ++ kinds_of S r) on) _ o.1 in
        let js = conjuncts S (scope_of S l ++ scope_of S r) on in
        let n = length (scope_of S l) in
        let p = neither (outer_fault (λ i. nat_lt i n) n js (conjunct_places on)) _ d.1 in
        let stands = from_stands S (right_join l r on at) outer before block e k in
        right_regular S (kinds_of S l) (kinds_of S r) (places_of S l) (places_of S r) (from_plan S [] l) (from_plan S [] r)
        (from_regular l [] [] outer before block h.0 a.0 b.0 (no_commas S [] l h.1) tt)
        (from_regular r [] [] outer _ block h.2 a.1 b.1 (no_commas S [] r h.3) tt)
        n (from_width S l [] outer before a.0) (clause_even l outer before a.0) (length (scope_of S r)) (from_width S r [] outer _ a.1)
        js (cond_good on outer block (scope_of S l ++ scope_of S r) (kinds_of S l ++ kinds_of S r) (clause_even (right_join l r on at) outer before e) h.4 d.0)
        (paired n js at p.1) stands.3

    cond_good : (c : CondTree) (outer block scope : List ScopeColumn) (ks : List ColKind) → length ks ≡ length scope → IsCond c → cond_fault S outer block scope ks c ≡ None → Each (Good S ks) (conjuncts S scope c)
    cond_good (all_of at cs) outer block scope ks even h e = conds_good cs outer block scope ks even h.1 e
    cond_good (in_query at cs q word_at) outer block scope ks even h e =
        let a = neither (columns_fault outer scope cs) _ e in
        let b = neither (query_fault S (outer ++ block) q) _ a.1 in
        let d = neither (fault_if (not (nat_eq (length cs) (length (output_kinds S q)))) faults.InWidth word_at) _ b.1 in
        member_good outer scope ks even cs q (outer ++ block) a.0 h.1 b.0 (eqb-true _ _ (no_fault _ _ _ d.0)) (same_kinds (map (column_kind scope ks) cs) (output_kinds S q) (no_fault _ _ _ d.1)) (query_regular q (outer ++ block) h.1 b.0)
    cond_good (compare at sign a b word_at) outer block scope ks even h e = kept_good outer scope ks even (compare at sign a b word_at) at h tt e
    cond_good (is_null at c) outer block scope ks even h e = kept_good outer scope ks even (is_null at c) at h tt e
    cond_good (is_not_null at c) outer block scope ks even h e = kept_good outer scope ks even (is_not_null at c) at h tt e
    cond_good (in_list at c vs word_at) outer block scope ks even h e = kept_good outer scope ks even (in_list at c vs word_at) at h tt e
    cond_good (any_of at cs) outer block scope ks even h e = kept_good outer scope ks even (any_of at cs) at h tt e
    cond_good (negated at c) outer block scope ks even h e = kept_good outer scope ks even (negated at c) at h tt e

    conds_good : (cs : CondTrees) (outer block scope : List ScopeColumn) (ks : List ColKind) → length ks ≡ length scope → AreConds cs → conds_fault S outer block scope ks cs ≡ None → Each (Good S ks) (all_conjuncts S scope cs)
    conds_good no_conds outer block scope ks even h e = tt
    conds_good (cond_then c cs) outer block scope ks even h e =
        let a = neither (cond_fault S outer block scope ks c) _ e in
        each_append (Good S ks) (conjuncts S scope c) (all_conjuncts S scope cs) (cond_good c outer block scope ks even h.0 a.0) (conds_good cs outer block scope ks even h.1 a.1)

-- a plan costs at most 7 for each of its nodes
cost_few : (p : PlanTree) → cost p ≤ 7 * node_count p
cost_few (plans.table n w) = omega arith
cost_few (plans.proj cols p) = omega (arith, cost_few p)
cost_few (plans.filtered q cols p) = omega (arith, cost_few p)
cost_few (plans.inner_join a b l r) = omega (arith, cost_few l, cost_few r)
cost_few (plans.left_join a b l r) = omega (arith, cost_few l, cost_few r)
cost_few (plans.in_sub cols l r) = omega (arith, cost_few l, cost_few r)
cost_few (plans.dedup p) = omega (arith, cost_few p)

pub regular_plan : (S : List Table) → IsSchema S → (q : QueryTree) → IsLawful q → query_fault S [] q ≡ None → Regular S (planned S q)
regular_plan S schema q lawful e =
    let few : items_in q ≤ 256 = omega (arith, items_marked q, lawful.items) in
    let small : conjuncts_in q ≤ 256 = omega (arith, conjuncts_marked q, lawful.conjuncts) in
    let h = query_regular S schema q [] lawful.formed e in
    record {
      well_formed = record {
        places = h.fit;
        narrow = query_narrow S schema q [] few e;
        cheap = omega (arith, cost_few (planned S q), query_nodes S q, few, small);
      };
      nodes = h.nodes;
      few_columns = omega (arith, query_width S q [] e, query_even S q [] e, query_few S q [] e);
    }
