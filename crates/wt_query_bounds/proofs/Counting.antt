-- How many nodes the plan of a query has.
use Rattle.std.proofs.Common.{◌≡◌, ℕ, ◌+◌, ◌*◌, ◌≤◌, Bool, true, false, ◌&&◌, not, cond, List, [], ◌∷◌, ◌++◌, map, length, filter, is_some, refl, ◌∙◌, arith}
use Rattle.wt_ast.specs.Tree.{QueryTree, FilterTree, FromTree, CondTree, CondTrees, select, no_filter, filter_by, table, derived, inner_join, left_join, right_join, comma, compare, is_null, is_not_null, in_list, in_query, all_of, any_of, negated, no_conds, cond_then}
use Rattle.wt_schema.specs.declared.schema.Table.{Table}
use Rattle.std.specs.Prelude.{flat_map}
use Rattle.wt_plan.specs.Tree.{PlanTree}
use Rattle.wt_plan.specs.Tree as plans
use Rattle.wt_plan.specs.Measures.{node_count}
use Rattle.wt_query_rows.specs.declared.scope.ScopeColumn.{ScopeColumn}
use Rattle.wt_query_rows.specs.Scopes.{scope_of}
use Rattle.wt_query_plan.specs.Building.{at_place, item_places, is_sole_star, has_right, firsts, seconds, pairs_of, Conjunct, keeps, is_in, conjuncts, all_conjuncts, kept_by, others_of, on_right, pair_of, stacked, places_of, planned, from_plan, listed, deduped, free_of, links}
use Rattle.wt_query_bounds.specs.Bounds.{items_in, items_in_filter, items_in_from, items_in_cond, items_in_conds, conjuncts_in, conjuncts_in_filter, conjuncts_in_from, conjuncts_in_cond, conjuncts_in_conds}

-- the nodes that a conjunct adds over a plan, and those that conjuncts add
abbrev added : Conjunct → ℕ
added (keeps p) = 1
added (is_in cols q) = 1 + node_count q

abbrev added_all : List Conjunct → ℕ
added_all [] = 0
added_all (j ∷ js) = added j + added_all js

stacked_nodes : (places : List ℕ) (js : List Conjunct) (plan : PlanTree) → node_count (stacked places js plan) ≡ added_all js + node_count plan
stacked_nodes places [] plan = omega arith
stacked_nodes places (keeps p ∷ js) plan = stacked_nodes places js _ ∙ omega arith
stacked_nodes places (is_in cols q ∷ js) plan = stacked_nodes places js _ ∙ omega arith

fewer : (t : Conjunct → Bool) (js : List Conjunct) → added_all (filter t js) ≤ added_all js
fewer t [] = omega arith
fewer t (j ∷ js) = here (t j) (fewer t js)
  where
    here : (b : Bool) → added_all (filter t js) ≤ added_all js → added_all (cond b (j ∷ filter t js) (filter t js)) ≤ added j + added_all js
    here true h = omega (arith, h)
    here false h = omega (arith, h)

added_right : (n : ℕ) (js : List Conjunct) → added_all (map (on_right n) js) ≡ added_all js
added_right n [] = refl
added_right n (keeps p ∷ js) = omega (arith, added_right n js)
added_right n (is_in cols q ∷ js) = omega (arith, added_right n js)

added_append : (js ks : List Conjunct) → added_all (js ++ ks) ≡ added_all js + added_all ks
added_append [] ks = omega arith
added_append (j ∷ js) ks = omega (arith, added_append js ks)

listed_nodes : (b : Bool) (cols : List ℕ) (p : PlanTree) → node_count (listed b cols p) ≤ 1 + node_count p
listed_nodes true cols p = omega arith
listed_nodes false cols p = omega arith

deduped_nodes : (b : Bool) (p : PlanTree) → node_count (deduped b p) ≤ 1 + node_count p
deduped_nodes true p = omega arith
deduped_nodes false p = omega arith

module _ (S : List Table) where
  mutual
    pub query_nodes : (q : QueryTree) → node_count (planned S q) ≤ 3 * items_in q + conjuncts_in q
    query_nodes (select distinct items from keep) =
        let ws = kept_by S (scope_of S from) keep in
        let stands = stacked (places_of S from) (free_of S from ws) (from_plan S ws from) in
        let sole = is_sole_star items && not (has_right from) in
        let cols = map (at_place (places_of S from)) (flat_map (item_places (scope_of S from)) items) in
        omega (arith, deduped_nodes distinct (listed sole cols stands), listed_nodes sole cols stands, stacked_nodes (places_of S from) (free_of S from ws) (from_plan S ws from), fewer (λ j. not (links S from j)) ws, from_nodes from ws, filter_nodes (scope_of S from) keep)

    filter_nodes : (scope : List ScopeColumn) (k : FilterTree) → added_all (kept_by S scope k) ≤ 3 * items_in_filter k + conjuncts_in_filter k
    filter_nodes scope no_filter = omega arith
    filter_nodes scope (filter_by c) = cond_nodes scope c

    from_nodes : (f : FromTree) (ws : List Conjunct) → 2 + node_count (from_plan S ws f) ≤ 3 * items_in_from f + conjuncts_in_from f
    from_nodes (table name alias at alias_at) ws = omega arith
    from_nodes (derived q alias columns at alias_at) ws = omega (arith, query_nodes q)
    from_nodes (comma l r at) ws = omega (arith, from_nodes l ws, from_nodes r [])
    from_nodes (inner_join l r on at) ws =
        let js = conjuncts S (scope_of S l ++ scope_of S r) on in
        let os = others_of (length (scope_of S l)) js in
        omega (arith, from_nodes l [], from_nodes r [], cond_nodes (scope_of S l ++ scope_of S r) on, stacked_nodes (places_of S (inner_join l r on at)) os (plans.inner_join (map (at_place (places_of S l)) (firsts (pairs_of (length (scope_of S l)) js))) (map (at_place (places_of S r)) (seconds (pairs_of (length (scope_of S l)) js))) (from_plan S [] l) (from_plan S [] r)), fewer (λ j. not (is_some (pair_of (length (scope_of S l)) j))) js)
    from_nodes (left_join l r on at) ws =
        let js = conjuncts S (scope_of S l ++ scope_of S r) on in
        let os = others_of (length (scope_of S l)) js in
        omega (arith, from_nodes l [], from_nodes r [], cond_nodes (scope_of S l ++ scope_of S r) on, stacked_nodes (places_of S r) (map (on_right (length (scope_of S l))) os) (from_plan S [] r), added_right (length (scope_of S l)) os, fewer (λ j. not (is_some (pair_of (length (scope_of S l)) j))) js)
    from_nodes (right_join l r on at) ws =
        let js = conjuncts S (scope_of S l ++ scope_of S r) on in
        let os = others_of (length (scope_of S l)) js in
        omega (arith, from_nodes l [], from_nodes r [], cond_nodes (scope_of S l ++ scope_of S r) on, stacked_nodes (places_of S l) os (from_plan S [] l), fewer (λ j. not (is_some (pair_of (length (scope_of S l)) j))) js)

    cond_nodes : (scope : List ScopeColumn) (c : CondTree) → added_all (conjuncts S scope c) ≤ 3 * items_in_cond c + conjuncts_in_cond c
    cond_nodes scope (all_of at cs) = conds_nodes scope cs
    cond_nodes scope (in_query at cs q word_at) = omega (arith, query_nodes q)
    cond_nodes scope (compare at sign a b word_at) = omega arith
    cond_nodes scope (is_null at c) = omega arith
    cond_nodes scope (is_not_null at c) = omega arith
    cond_nodes scope (in_list at c vs word_at) = omega arith
    cond_nodes scope (any_of at cs) = omega arith
    cond_nodes scope (negated at c) = omega arith

    conds_nodes : (scope : List ScopeColumn) (cs : CondTrees) → added_all (all_conjuncts S scope cs) ≤ 3 * items_in_conds cs + conjuncts_in_conds cs
    conds_nodes scope no_conds = omega arith
    conds_nodes scope (cond_then c cs) = omega (arith, added_append (conjuncts S scope c) (all_conjuncts S scope cs), cond_nodes scope c, conds_nodes scope cs)
