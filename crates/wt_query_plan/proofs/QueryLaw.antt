-- The rows of a query are one bag with those of its plan.
use Rattle.std.proofs.Common.{◌≡◌, ℕ, suc, Bool, true, false, ◌&&◌, ◌||◌, cond, List, [], ◌∷◌, ◌++◌, map, length, refl, sym, ap, subst, ◌∙◌}
use Rattle.std.specs.List.{list_any}
use Rattle.std.specs.Prelude.{flat_map, filter}
use Rattle.wt_query_plan.proofs.CommaLaw.{Parts, linked, free_sums, free_wide, free_width}
use Rattle.wt_ast.specs.Tree.{QueryTree, FilterTree, FromTree, CondTree, CondTrees, select, no_filter, filter_by, table, derived, inner_join, left_join, right_join, comma, compare, is_null, is_not_null, in_list, in_query, all_of, any_of, negated, no_conds, cond_then}
use Rattle.wt_query_rows.specs.declared.scope.ScopeColumn.{ScopeColumn}
use Rattle.wt_query_rows.specs.Scopes.{in_scope, scope_of, output_names, columns_named, column_names}
use Rattle.wt_query_rows.specs.Rows.{Named, named, value_of, is_true, query_rows, from_rows, passes, holds, all_hold, table_rows}
use Rattle.wt_plan.specs.Rows.{plan_rows}
use Rattle.wt_plan.specs.Rows as plans
use Rattle.wt_value.specs.declared.value.Truth.{Truth}
use Rattle.wt_value.specs.declared.value.Truth.TheVariants as truths
use Rattle.wt_query_plan.specs.Building.{free_of, stacked, keeps, place_of, pred_of, table_number, conjuncts, all_conjuncts, kept_by, planned, from_plan, places_of}
use Rattle.wt_query_plan.specs.Standing.{RowsFit, Stands, FilterStands, FromStands, CondStands, AllStand}
use Rattle.wt_query_plan.proofs.Lookup.{truth_named, values_named}
use Rattle.wt_query_plan.proofs.Stacking.{all_at, all_append}
use Rattle.wt_query_plan.proofs.Operands.{Operand, leaf_operand, inner_operand, left_operand, right_operand}
use Rattle.wt_plan.proofs.Upto.{length_map}
use Rattle.wt_query_plan.proofs.Selecting.{Answers, select_answers}
use Rattle.std.specs.Option.{unwrap_or}
use Rattle.std.specs.Str.{bytes_eq}
use Rattle.wt_bag.specs.Bags.{total, OneBag}
use Rattle.wt_bag.proofs.BagLaws.{same_elements, one_bag}
use Rattle.wt_value.specs.Values.{Tuple, row_matches, row_same, value_at}
use Rattle.wt_pred.specs.Meaning.{truth}
use Rattle.wt_schema.specs.declared.schema.Table.{Table}
use Rattle.wt_schema.specs.Satisfying.{rows_of}
use Rattle.wt_plan.proofs.Widths.{Wide}

-- True is the same to a query and to a plan
as_plans : (t : Truth) → is_true t ≡ plans.is_true t
as_plans truths.False = refl
as_plans truths.Unknown = refl
as_plans truths.True = refl

and_nothing : (b : Bool) → b ≡ (b && true)
and_nothing true = refl
and_nothing false = refl

-- the rows of the table of a name that is known
pub known_rows : (S : List Table) (base : List (List Tuple)) (name : List ℕ) → list_any (λ (t : Table). bytes_eq t.name name) S ≡ true → table_rows S base name ≡ rows_of base (table_number S name)
known_rows [] base name e = cc
known_rows (t ∷ S) [] name e = refl
known_rows (t ∷ S) (rows ∷ base) name e = here (bytes_eq t.name name) e (known_rows S base name)
  where
    here : (b : Bool) → (b || list_any (λ (t : Table). bytes_eq t.name name) S) ≡ true → (list_any (λ (t : Table). bytes_eq t.name name) S ≡ true → table_rows S base name ≡ rows_of base (table_number S name))
        → cond b rows (table_rows S base name) ≡ rows_of (rows ∷ base) (cond b 0 (suc (table_number S name)))
    here true e k = refl
    here false e k = k e

all_kept : (rows : List Named) → filter (λ z. true) rows ≡ rows
all_kept [] = refl
all_kept (z ∷ rows) = ap (λ l. z ∷ l) (all_kept rows)

all_pairs : (L R : List Named) → flat_map (λ x. filter (λ z. true) (map (λ y. x ++ y) R)) L ≡ flat_map (λ x. map (λ y. x ++ y) R) L
all_pairs L R = λ i. flat_map (λ x. all_kept (map (λ y. x ++ y) R) i) L

module _ (S : List Table) (base : List (List Tuple)) (fit : RowsFit S base) where
  plain : (scope : List ScopeColumn) (c : CondTree) (z : Tuple) → length z ≡ length scope → is_true (Rattle.wt_query_rows.specs.Rows.truth_at (named scope z) c) ≡ all_at base (keeps (pred_of scope c) ∷ []) z
  plain scope c z e = ap is_true (truth_named scope z e c) ∙ as_plans (truth (pred_of scope c) z) ∙ and_nothing (plans.is_true (truth (pred_of scope c) z))

  mutual
    pub query_answers : (q : QueryTree) → Stands S q → Answers base (query_rows S base q) (length (output_names S q)) (planned S q)
    query_answers (select distinct items from keep) h =
        let o = from_operand from h.0 in
        let ws = kept_by S (scope_of S from) keep in
        let k = linked S base ws from (comma_parts from h.0) o in
        select_answers base (scope_of S from) (places_of S from) (from_plan S [] from) (from_rows S base from) o ws (λ row. passes S base keep row)
        (filter_asked (scope_of S from) keep h.1) items (stacked (places_of S from) (free_of S from ws) (from_plan S ws from)) (free_sums S base ws from k) (free_wide S base ws from k) (free_width S base ws from k)
        S from refl refl distinct

    pub comma_parts : (f : FromTree) → FromStands S f → Parts S base f
    comma_parts (comma l r at) h = (comma_parts l h.0, from_operand l h.0, from_operand r h.1)
    comma_parts (table name alias at alias_at) h = tt
    comma_parts (derived q alias columns at alias_at) h = tt
    comma_parts (inner_join l r on at) h = tt
    comma_parts (left_join l r on at) h = tt
    comma_parts (right_join l r on at) h = tt

    pub from_operand : (f : FromTree) → FromStands S f → Operand base (scope_of S f) (places_of S f) (from_plan S [] f) (from_rows S base f)
    from_operand (table name alias at alias_at) h =
        let is = known_rows S base name h in
        let n : length (columns_named S name) ≡ length (scope_of S (table name alias at alias_at)) = sym (length_map (in_scope (unwrap_or alias name)) (column_names (columns_named S name)) ∙ length_map _ (columns_named S name)) in
        leaf_operand base (scope_of S (table name alias at alias_at)) (from_plan S [] (table name alias at alias_at)) (table_rows S base name)
        (record { sums = λ g. ap (total g) is })
        (subst (λ k. Wide k (rows_of base (table_number S name))) n (subst (Wide (length (columns_named S name))) is (fit name))) n
    from_operand (derived q alias columns at alias_at) h =
        let a = query_answers q h.0 in
        let n : length (output_names S q) ≡ length (scope_of S (derived q alias columns at alias_at)) = sym (length_map (in_scope alias) (unwrap_or columns (output_names S q)) ∙ h.1) in
        leaf_operand base (scope_of S (derived q alias columns at alias_at)) (planned S q) (query_rows S base q) a.same (subst (λ k. Wide k (plan_rows base (planned S q))) n a.wide) (a.planned_width ∙ n)
    from_operand (comma l r at) h =
        subst (Operand base (scope_of S l ++ scope_of S r) (places_of S (comma l r at)) (from_plan S [] (comma l r at))) (all_pairs (from_rows S base l) (from_rows S base r))
        (inner_operand base (scope_of S l) (scope_of S r) (places_of S l) (places_of S r) (from_plan S [] l) (from_plan S [] r) (from_rows S base l) (from_rows S base r)
        (from_operand l h.0) (from_operand r h.1) [] (λ z. true) (λ z e. refl))
    from_operand (inner_join l r on at) h =
        inner_operand base (scope_of S l) (scope_of S r) (places_of S l) (places_of S r) (from_plan S [] l) (from_plan S [] r) (from_rows S base l) (from_rows S base r)
        (from_operand l h.0) (from_operand r h.1) (conjuncts S (scope_of S l ++ scope_of S r) on) (holds S base on) (cond_asked (scope_of S l ++ scope_of S r) on h.2)
    from_operand (left_join l r on at) h =
        left_operand base (scope_of S l) (scope_of S r) (places_of S l) (places_of S r) (from_plan S [] l) (from_plan S [] r) (from_rows S base l) (from_rows S base r)
        (from_operand l h.0) (from_operand r h.1) (conjuncts S (scope_of S l ++ scope_of S r) on) (holds S base on) (cond_asked (scope_of S l ++ scope_of S r) on h.2) h.3
    from_operand (right_join l r on at) h =
        right_operand base (scope_of S l) (scope_of S r) (places_of S l) (places_of S r) (from_plan S [] l) (from_plan S [] r) (from_rows S base l) (from_rows S base r)
        (from_operand l h.0) (from_operand r h.1) (conjuncts S (scope_of S l ++ scope_of S r) on) (holds S base on) (cond_asked (scope_of S l ++ scope_of S r) on h.2) h.3

    filter_asked : (scope : List ScopeColumn) (k : FilterTree) → FilterStands S k → (z : Tuple) → length z ≡ length scope → passes S base k (named scope z) ≡ all_at base (kept_by S scope k) z
    filter_asked scope no_filter h z e = refl
    filter_asked scope (filter_by c) h z e = cond_asked scope c h z e

    cond_asked : (scope : List ScopeColumn) (c : CondTree) → CondStands S c → (z : Tuple) → length z ≡ length scope → holds S base c (named scope z) ≡ all_at base (conjuncts S scope c) z
    cond_asked scope (all_of at cs) h z e = all_asked scope cs h z e
    cond_asked scope (in_query at cs q word_at) h z e =
        let a = query_answers q h in
        (same_elements (query_rows S base q) (plan_rows base (planned S q)) a.same).tests (λ r. row_matches (map (value_of (named scope z)) cs) r)
        ∙ ap (λ l. list_any (λ r. row_matches l r) (plan_rows base (planned S q))) (values_named scope z e cs)
        ∙ and_nothing (list_any (λ r. row_matches (map (value_at z) (map (place_of scope) cs)) r) (plan_rows base (planned S q)))
    cond_asked scope (compare at sign a b word_at) h z e = plain scope (compare at sign a b word_at) z e
    cond_asked scope (is_null at c) h z e = plain scope (is_null at c) z e
    cond_asked scope (is_not_null at c) h z e = plain scope (is_not_null at c) z e
    cond_asked scope (in_list at c vs word_at) h z e = plain scope (in_list at c vs word_at) z e
    cond_asked scope (any_of at cs) h z e = plain scope (any_of at cs) z e
    cond_asked scope (negated at c) h z e = plain scope (negated at c) z e

    all_asked : (scope : List ScopeColumn) (cs : CondTrees) → AllStand S cs → (z : Tuple) → length z ≡ length scope → all_hold S base cs (named scope z) ≡ all_at base (all_conjuncts S scope cs) z
    all_asked scope no_conds h z e = refl
    all_asked scope (cond_then c cs) h z e =
        (λ i. cond_asked scope c h.0 z e i && all_asked scope cs h.1 z e i) ∙ sym (all_append base (conjuncts S scope c) (all_conjuncts S scope cs) z)

  -- the main law
  pub query_law : (q : QueryTree) → Stands S q → OneBag row_same (query_rows S base q) (plan_rows base (planned S q))
  query_law q h = one_bag row_same (query_rows S base q) (plan_rows base (planned S q)) (query_answers q h).same
