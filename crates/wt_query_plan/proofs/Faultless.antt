-- A query without a fault stands.
use Rattle.std.proofs.Common.{◌≡◌, ℕ, ◌<◌, ◌≤◌, nat_lt, nat_eq, Bool, true, false, ◌&&◌, ◌||◌, not, cond, List, [], ◌∷◌, ◌++◌, length, length-append, Some, None, is_some, refl, arith}
use Rattle.std.specs.List.{list_any, list_all}
use Rattle.std.specs.Option.{unwrap_or}
use Rattle.std.specs.Str.{bytes_eq}
use Rattle.std.proofs.lemmas.Bool.{ltb-true, ltb-false}
use borrow.Author.Tests.{eqb-true}
use Rattle.wt_bag.specs.Bags.{Each}
use Rattle.wt_schema.specs.declared.schema.Table.{Table}
use Rattle.wt_schema.specs.declared.schema.ColKind.{ColKind}
use Rattle.wt_query_plan.specs.declared.fault.BuildFault.{BuildFault}
use Rattle.wt_ast.specs.Tree.{QueryTree, FilterTree, FromTree, CondTree, CondTrees, select, no_filter, filter_by, table, derived, inner_join, left_join, right_join, comma, compare, is_null, is_not_null, in_list, in_query, all_of, any_of, negated, no_conds, cond_then}
use Rattle.wt_query_rows.specs.declared.scope.ScopeColumn.{ScopeColumn}
use Rattle.wt_query_rows.specs.Scopes.{scope_of, output_names}
use Rattle.wt_query_plan.specs.Building.{Conjunct, conjunct_columns, conjuncts, all_conjuncts, pair_of, others_of}
use Rattle.wt_query_plan.specs.Faults.{Fault, first_of, fault_if, query_fault, from_fault, joins_fault, filter_fault, cond_fault, conds_fault, outer_one, outer_fault, conjunct_places, all_places, kinds_of}
use Rattle.wt_query_plan.specs.Standing.{Stands, FilterStands, FromStands, CondStands, AllStand}

pub neither : (f g : Fault) → first_of f g ≡ None → (f ≡ None) × (g ≡ None)
neither None g e = (refl, e)
neither (Some f) g e = cc

no_fault : (b : Bool) (f : BuildFault) (at : ℕ) → fault_if (not b) f at ≡ None → b ≡ true
no_fault true f at e = refl
no_fault false f at e = cc

each_of : (P : ℕ → Type 0) (t : ℕ → Bool) → ((k : ℕ) → t k ≡ true → P k) → (cols : List ℕ) → list_all t cols ≡ true → Each P cols
each_of P t says [] e = tt
each_of P t says (k ∷ cols) e = here (t k) refl e (each_of P t says cols)
  where
    here : (b : Bool) → t k ≡ b → (b && list_all t cols) ≡ true → (list_all t cols ≡ true → Each P cols) → P k × Each P cols
    here true f e more = (says k f, more e)
    here false f e more = cc

-- conjuncts that are no pairs are on the padded columns alone
pub padded_alone : (P : ℕ → Type 0) (t : ℕ → Bool) → ((k : ℕ) → t k ≡ true → P k) → (n : ℕ) (js : List Conjunct) (ats : List ℕ) → length ats ≡ length js
    → outer_fault t n js ats ≡ None → Each (λ j. Each P (conjunct_columns j)) (others_of n js)
padded_alone P t says n [] ats l e = tt
padded_alone P t says n (j ∷ js) [] l e = absurd (let bad : ⊥ = omega (arith, l) in bad)
padded_alone P t says n (j ∷ js) (at ∷ ats) l e =
    let a = neither (outer_one t n j at) (outer_fault t n js ats) e in
    here (is_some (pair_of n j)) (list_all t (conjunct_columns j)) refl (no_fault _ _ _ a.0) (padded_alone P t says n js ats (omega (arith, l)) a.1)
  where
    here : (b c : Bool) → list_all t (conjunct_columns j) ≡ c → (b || c) ≡ true → Each (λ i. Each P (conjunct_columns i)) (others_of n js) → Each (λ i. Each P (conjunct_columns i)) (cond (not b) (j ∷ others_of n js) (others_of n js))
    here true c f e more = more
    here false true f e more = (each_of P t says (conjunct_columns j) f, more)
    here false false f e more = cc

pub not_less : (n k : ℕ) → not (nat_lt k n) ≡ true → n ≤ k
not_less n k e = here (nat_lt k n) refl e
  where
    here : (b : Bool) → nat_lt k n ≡ b → not b ≡ true → n ≤ k
    here false f e = ltb-false k n f
    here true f e = cc

module _ (S : List Table) where
  mutual
    pub as_many : (scope : List ScopeColumn) (c : CondTree) → length (conjunct_places c) ≡ length (conjuncts S scope c)
    as_many scope (all_of at cs) = as_many_in scope cs
    as_many scope (compare at sign a b word_at) = refl
    as_many scope (is_null at c) = refl
    as_many scope (is_not_null at c) = refl
    as_many scope (in_list at c vs word_at) = refl
    as_many scope (in_query at cs q word_at) = refl
    as_many scope (any_of at cs) = refl
    as_many scope (negated at c) = refl

    as_many_in : (scope : List ScopeColumn) (cs : CondTrees) → length (all_places cs) ≡ length (all_conjuncts S scope cs)
    as_many_in scope no_conds = refl
    as_many_in scope (cond_then c cs) = omega (arith, length-append (conjunct_places c) (all_places cs), length-append (conjuncts S scope c) (all_conjuncts S scope cs), as_many scope c, as_many_in scope cs)

  mutual
    pub faultless : (q : QueryTree) (outer : List ScopeColumn) → query_fault S outer q ≡ None → Stands S q
    faultless (select distinct items from keep) outer e =
        let a = neither (from_fault S outer [] from) _ e in
        let b = neither (joins_fault S outer (scope_of S from) from) _ a.1 in
        let c = neither (filter_fault S outer (scope_of S from) (kinds_of S from) keep) _ b.1 in
        (from_stands from outer [] (scope_of S from) a.0 b.0, filter_stands keep outer (scope_of S from) (kinds_of S from) c.0)

    pub from_stands : (f : FromTree) (outer : List ScopeColumn) (before : List (List ℕ)) (block : List ScopeColumn) → from_fault S outer before f ≡ None → joins_fault S outer block f ≡ None → FromStands S f
    from_stands (table name alias at alias_at) outer before block e k = no_fault _ _ _ (neither (fault_if (not (list_any (λ (t : Table). bytes_eq t.name name) S)) _ at) _ e).0
    from_stands (derived q alias columns at alias_at) outer before block e k =
        let a = neither (query_fault S outer q) _ e in
        let b = neither (fault_if (not (nat_eq (length (unwrap_or columns (output_names S q))) (length (output_names S q)))) _ alias_at) _ a.1 in
        (faultless q outer a.0, eqb-true _ _ (no_fault _ _ _ b.0))
    from_stands (comma l r at) outer before block e k =
        let a = neither (from_fault S outer before l) _ e in
        let b = neither (joins_fault S outer block l) _ k in
        (from_stands l outer before block a.0 b.0, from_stands r outer _ block a.1 b.1)
    from_stands (inner_join l r on at) outer before block e k =
        let a = neither (from_fault S outer before l) _ e in
        let o = neither (first_of (joins_fault S outer block l) (joins_fault S outer block r)) _ k in
        let b = neither (joins_fault S outer block l) (joins_fault S outer block r) o.0 in
        let d = neither (cond_fault S outer block (scope_of S l ++ scope_of S r) (kinds_of S l ++ kinds_of S r) on) _ o.1 in
        (from_stands l outer before block a.0 b.0, from_stands r outer _ block a.1 b.1, cond_stands on outer block (scope_of S l ++ scope_of S r) (kinds_of S l ++ kinds_of S r) d.0)
    from_stands (left_join l r on at) outer before block e k =
        let a = neither (from_fault S outer before l) _ e in
        let o = neither (first_of (joins_fault S outer block l) (joins_fault S outer block r)) _ k in
        let b = neither (joins_fault S outer block l) (joins_fault S outer block r) o.0 in
        let d = neither (cond_fault S outer block (scope_of S l ++ scope_of S r) (kinds_of S l ++ kinds_of S r) on) _ o.1 in
        let n = length (scope_of S l) in
        let js = conjuncts S (scope_of S l ++ scope_of S r) on in
        let f = neither (outer_fault (λ k. not (nat_lt k n)) n js (conjunct_places on)) _ d.1 in (
          from_stands l outer before block a.0 b.0,
          from_stands r outer _ block a.1 b.1,
          cond_stands on outer block (scope_of S l ++ scope_of S r) (kinds_of S l ++ kinds_of S r) d.0,
          padded_alone (λ k. n ≤ k) (λ k. not (nat_lt k n)) (not_less n) n js (conjunct_places on) (as_many (scope_of S l ++ scope_of S r) on) f.0,
        )
    from_stands (right_join l r on at) outer before block e k =
        let a = neither (from_fault S outer before l) _ e in
        let o = neither (first_of (joins_fault S outer block l) (joins_fault S outer block r)) _ k in
        let b = neither (joins_fault S outer block l) (joins_fault S outer block r) o.0 in
        let d = neither (cond_fault S outer block (scope_of S l ++ scope_of S r) (kinds_of S l ++ kinds_of S r) on) _ o.1 in
        let n = length (scope_of S l) in
        let js = conjuncts S (scope_of S l ++ scope_of S r) on in
        let f = neither (outer_fault (λ k. nat_lt k n) n js (conjunct_places on)) _ d.1 in (
          from_stands l outer before block a.0 b.0,
          from_stands r outer _ block a.1 b.1,
          cond_stands on outer block (scope_of S l ++ scope_of S r) (kinds_of S l ++ kinds_of S r) d.0,
          padded_alone (λ k. k < n) (λ k. nat_lt k n) (λ k. ltb-true k n) n js (conjunct_places on) (as_many (scope_of S l ++ scope_of S r) on) f.0,
        )

    filter_stands : (k : FilterTree) (outer block : List ScopeColumn) (ks : List ColKind) → filter_fault S outer block ks k ≡ None → FilterStands S k
    filter_stands no_filter outer block ks e = tt
    filter_stands (filter_by c) outer block ks e = cond_stands c outer block block ks e

    cond_stands : (c : CondTree) (outer block scope : List ScopeColumn) (ks : List ColKind) → cond_fault S outer block scope ks c ≡ None → CondStands S c
    cond_stands (all_of at cs) outer block scope ks e = all_stand cs outer block scope ks e
    cond_stands (in_query at cs q word_at) outer block scope ks e =
        let a = neither (Rattle.wt_query_plan.specs.Faults.columns_fault outer scope cs) _ e in
        faultless q (outer ++ block) (neither (query_fault S (outer ++ block) q) _ a.1).0
    cond_stands (compare at sign a b word_at) outer block scope ks e = tt
    cond_stands (is_null at c) outer block scope ks e = tt
    cond_stands (is_not_null at c) outer block scope ks e = tt
    cond_stands (in_list at c vs word_at) outer block scope ks e = tt
    cond_stands (any_of at cs) outer block scope ks e = tt
    cond_stands (negated at c) outer block scope ks e = tt

    all_stand : (cs : CondTrees) (outer block scope : List ScopeColumn) (ks : List ColKind) → conds_fault S outer block scope ks cs ≡ None → AllStand S cs
    all_stand no_conds outer block scope ks e = tt
    all_stand (cond_then c cs) outer block scope ks e =
        let a = neither (cond_fault S outer block scope ks c) _ e in
        (cond_stands c outer block scope ks a.0, all_stand cs outer block scope ks a.1)
