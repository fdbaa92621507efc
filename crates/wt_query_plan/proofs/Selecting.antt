-- The select list and DISTINCT over a plan.
use Rattle.std.proofs.Common.{◌≡◌, ℕ, zero, suc, ◌+◌, Bool, true, false, ◌&&◌, not, cond, List, [], ◌∷◌, ◌++◌, append-nil, map, length, length-append, filter, refl, sym, ap, subst, ◌∙◌, arith}
use Rattle.std.specs.Prelude.{flat_map, ◌||◌}
use Rattle.wt_bag.specs.Bags.{total, only, SameSums, distinct}
use Rattle.wt_bag.proofs.BagLaws.{same_elements, distinct_same}
use Rattle.wt_bag.proofs.EachLaws.{each_implies, each_map, each_for, each_distinct}
use Rattle.wt_bag.proofs.TotalLaws.{total-map, total-filter, total_each, total_ext}
use Rattle.wt_value.specs.Values.{Tuple, row_same, value_at, pick}
use Rattle.wt_value.proofs.Comparing.{row_same_decides}
use Rattle.wt_ast.specs.Tree.{FromTree, table, derived, inner_join, left_join, right_join, comma}
use Rattle.wt_query_rows.specs.declared.scope.ScopeColumn.{ScopeColumn}
use Rattle.wt_query_rows.specs.Scopes.{is_of, item_names, scope_of}
use Rattle.wt_query_rows.specs.Rows.{Named, named, chosen, once}
use Rattle.wt_plan.specs.Tree.{PlanTree}
use Rattle.wt_plan.specs.Rows.{plan_rows}
use Rattle.wt_plan.specs.Measures.{width}
use Rattle.wt_query_plan.specs.Building.{Conjunct, at_place, item_places, places_where, is_sole_star, has_right, places_of, listed, deduped}
use Rattle.wt_plan.specs.Regular.{upto}
use Rattle.wt_query_plan.proofs.Lookup.{map_append, chosen_named}
use Rattle.wt_plan.proofs.Upto.{pick_upto, length_map, length_upto}
use Rattle.wt_query_plan.proofs.Stacking.{all_at, pick_places}
use Rattle.wt_query_plan.proofs.Operands.{Operand}
use Rattle.wt_schema.specs.declared.schema.Table.{Table}
use Rattle.wt_ast.specs.declared.tree.Item.{Item}
use Rattle.wt_ast.specs.declared.tree.Item.TheVariants.{Star, AllOf, Column}
use Rattle.wt_plan.proofs.Widths.{Wide}

where_length : (alias : List ℕ) (scope : List ScopeColumn) → length (places_where (is_of alias) scope) ≡ length (map (λ (s : ScopeColumn). s.name) (filter (is_of alias) scope))
where_length alias [] = refl
where_length alias (s ∷ scope) = here (is_of alias s) (length_map suc (places_where (is_of alias) scope) ∙ where_length alias scope)
  where
    here : (b : Bool) → length (map suc (places_where (is_of alias) scope)) ≡ length (map (λ (s : ScopeColumn). s.name) (filter (is_of alias) scope))
        → length (cond b (0 ∷ map suc (places_where (is_of alias) scope)) (map suc (places_where (is_of alias) scope))) ≡ length (map (λ (s : ScopeColumn). s.name) (cond b (s ∷ filter (is_of alias) scope) (filter (is_of alias) scope)))
    here true e = omega (arith, e)
    here false e = e

item_length : (scope : List ScopeColumn) (i : Item) → length (item_places scope i) ≡ length (item_names scope i)
item_length scope (Star at) = length_upto (length scope) ∙ sym (length_map (λ (s : ScopeColumn). s.name) scope)
item_length scope (AllOf alias at) = where_length alias scope
item_length scope (Column column output) = refl

items_length : (scope : List ScopeColumn) (items : List Item) → length (flat_map (item_places scope) items) ≡ length (flat_map (item_names scope) items)
items_length scope [] = refl
items_length scope (i ∷ items) = omega (arith, length-append (item_places scope i) (flat_map (item_places scope) items), length-append (item_names scope i) (flat_map (item_names scope) items), item_length scope i, items_length scope items)

sole_star : (items : List Item) → is_sole_star items ≡ true → (scope : List ScopeColumn) → flat_map (item_places scope) items ≡ upto (length scope)
sole_star [] e scope = cc
sole_star (Star at ∷ []) e scope = append-nil (upto (length scope))
sole_star (Star at ∷ i ∷ items) e scope = cc
sole_star (AllOf alias at ∷ items) e scope = cc
sole_star (Column column output ∷ items) e scope = cc

upto_more : (n k : ℕ) → upto (n + k) ≡ upto n ++ map (λ j. n + j) (upto k)
upto_more zero k = let e : 0 + k ≡ k = omega arith in ap upto e ∙ shifted (upto k)
  where
    shifted : (xs : List ℕ) → xs ≡ map (λ j. 0 + j) xs
    shifted [] = refl
    shifted (x ∷ xs) = let e : x ≡ 0 + x = omega arith in λ i. e i ∷ shifted xs i
upto_more (suc n) k =
    let e : suc n + k ≡ suc (n + k) = omega arith in
    ap upto e ∙ ap (λ l. 0 ∷ l) (ap (map suc) (upto_more n k) ∙ map_append suc (upto n) (map (λ j. n + j) (upto k)) ∙ ap (λ l. map suc (upto n) ++ l) (again (upto k)))
  where
    again : (xs : List ℕ) → map suc (map (λ j. n + j) xs) ≡ map (λ j. suc n + j) xs
    again [] = refl
    again (x ∷ xs) = let e : suc (n + x) ≡ suc n + x = omega arith in λ i. e i ∷ again xs i

or_false : (a b : Bool) → (a || b) ≡ false → (a ≡ false) × (b ≡ false)
or_false true b e = cc
or_false false b e = (refl, e)

-- without a RIGHT join a plan's columns are in the order of the text
pub text_order : (S : List Table) (f : FromTree) → has_right f ≡ false → places_of S f ≡ upto (length (scope_of S f))
text_order S (table name alias at alias_at) e = refl
text_order S (derived q alias columns at alias_at) e = refl
text_order S (inner_join l r on at) e =
    let k = or_false (has_right l) (has_right r) e in
    (λ i. text_order S l k.0 i ++ map (λ k. length (scope_of S l) + k) (text_order S r k.1 i))
    ∙ sym (ap upto (length-append (scope_of S l) (scope_of S r)) ∙ upto_more (length (scope_of S l)) (length (scope_of S r)))
text_order S (left_join l r on at) e =
    let k = or_false (has_right l) (has_right r) e in
    (λ i. text_order S l k.0 i ++ map (λ k. length (scope_of S l) + k) (text_order S r k.1 i))
    ∙ sym (ap upto (length-append (scope_of S l) (scope_of S r)) ∙ upto_more (length (scope_of S l)) (length (scope_of S r)))
text_order S (comma l r at) e =
    let k = or_false (has_right l) (has_right r) e in
    (λ i. text_order S l k.0 i ++ map (λ k. length (scope_of S l) + k) (text_order S r k.1 i))
    ∙ sym (ap upto (length-append (scope_of S l) (scope_of S r)) ∙ upto_more (length (scope_of S l)) (length (scope_of S r)))
text_order S (right_join l r on at) e = cc

and_true : (a b : Bool) → (a && b) ≡ true → (a ≡ true) × (b ≡ true)
and_true true b e = (refl, e)
and_true false b e = cc

not_true : (b : Bool) → not b ≡ true → b ≡ false
not_true true e = cc
not_true false e = refl

-- what a plan answers: the rows, and how many columns
pub record Answers (base : List (List Tuple)) (rows : List Tuple) (n : ℕ) (plan : PlanTree) : Type 0 where
  pub same : SameSums rows (plan_rows base plan)
  pub wide : Wide n (plan_rows base plan)
  pub planned_width : width plan ≡ n

pub deduped_answers : (base : List (List Tuple)) (rows : List Tuple) (n : ℕ) (plan : PlanTree) (b : Bool) → Answers base rows n plan → Answers base (once b rows) n (deduped b plan)
deduped_answers base rows n plan false h = h
deduped_answers base rows n plan true h = record {
  same = distinct_same row_same row_same_decides rows (plan_rows base plan) (same_elements rows (plan_rows base plan) h.same);
  wide = each_distinct (λ v. length v ≡ n) row_same (plan_rows base plan) h.wide;
  planned_width = h.planned_width;
}

module _ (base : List (List Tuple)) (scope : List ScopeColumn) (places : List ℕ) (plan : PlanTree) (rows : List Named) (f : Operand base scope places plan rows)
    (js : List Conjunct) (keep : Named → Bool) (asked : (z : Tuple) → length z ≡ length scope → keep (named scope z) ≡ all_at base js z) (items : List Item)
    (P : PlanTree) (kept : (g : Tuple → ℕ) → total g (plan_rows base P) ≡ total (λ v. only (all_at base js (pick places v)) (g v)) (plan_rows base plan))
    (wide_kept : Wide (length places) (plan_rows base P)) (width_kept : width P ≡ length places) where
  abbrev cols : List ℕ
  cols = flat_map (item_places scope) items

  text_length : (v : Tuple) → length (pick places v) ≡ length scope
  text_length v = length_map (value_at v) places ∙ f.same_length

  -- the chosen values of the kept rows, over the plan's rows under its conditions
  chosen_sums : (g : Tuple → ℕ) → total g (map (chosen items) (filter keep rows)) ≡ total (λ v. g (map (value_at (pick places v)) cols)) (plan_rows base P)
  chosen_sums g =
      total-map g (chosen items) (filter keep rows)
      ∙ total-filter (λ z. g (chosen items z)) keep rows
      ∙ f.sums (λ z. only (keep z) (g (chosen items z)))
      ∙ total_ext (λ v. only (keep (named scope (pick places v))) (g (chosen items (named scope (pick places v))))) (λ v. only (all_at base js (pick places v)) (g (map (value_at (pick places v)) cols))) (plan_rows base plan)
      (λ v. λ i. only (asked (pick places v) (text_length v) i) (g (chosen_named scope (pick places v) (text_length v) items i)))
      ∙ sym (kept (λ v. g (map (value_at (pick places v)) cols)))

  pub listed_answers : (b : Bool) → (b ≡ true → (cols ≡ upto (length scope)) × (places ≡ upto (length scope)))
      → Answers base (map (chosen items) (filter keep rows)) (length (flat_map (item_names scope) items)) (listed b (map (at_place places) cols) P)
  listed_answers false h = record {
    same = record {
      sums = λ g. chosen_sums g
          ∙ total_each _ _ (plan_rows base P) (each_implies (λ v. length v ≡ length places) (λ v. g (map (value_at (pick places v)) cols) ≡ g (pick (map (at_place places) cols) v)) (plan_rows base P)
          (λ v e. ap g (sym (pick_places v places e cols))) wide_kept)
          ∙ sym (total-map g (pick (map (at_place places) cols)) (plan_rows base P));
    };
    wide = each_map (λ v. length v ≡ length (flat_map (item_names scope) items)) (pick (map (at_place places) cols)) (plan_rows base P)
        (each_for (plan_rows base P) (λ v. length_map (value_at v) (map (at_place places) cols) ∙ length_map (at_place places) cols ∙ items_length scope items));
    planned_width = length_map (at_place places) cols ∙ items_length scope items;
  }
  listed_answers true h =
      let k = h refl in
      let n : length places ≡ length (flat_map (item_names scope) items) = f.same_length ∙ sym (length_upto (length scope)) ∙ ap length (sym k.0) ∙ items_length scope items in
      record {
        same = record {
          sums = λ g. chosen_sums g
              ∙ total_each _ _ (plan_rows base P) (each_implies (λ v. length v ≡ length places) (λ v. g (map (value_at (pick places v)) cols) ≡ g v) (plan_rows base P)
              (λ v e. ap g (whole v (e ∙ f.same_length) k.0 k.1)) wide_kept);
        };
        wide = subst (λ m. Wide m (plan_rows base P)) n wide_kept;
        planned_width = width_kept ∙ n;
      }
    where
      first : (v : Tuple) → length v ≡ length scope → pick (upto (length scope)) v ≡ v
      first v e = ap (λ m. pick (upto m) v) (sym e) ∙ pick_upto v

      whole : (v : Tuple) → length v ≡ length scope → cols ≡ upto (length scope) → places ≡ upto (length scope) → map (value_at (pick places v)) cols ≡ v
      whole v e c p = (λ i. map (value_at (pick (p i) v)) (c i)) ∙ ap (pick (upto (length scope))) (first v e) ∙ first v e

  -- the whole SELECT, for a list that is left out only where it changes nothing
  pub select_answers : (S : List Table) (from : FromTree) → scope_of S from ≡ scope → places_of S from ≡ places → (distinct : Bool)
      → Answers base (once distinct (map (chosen items) (filter keep rows))) (length (flat_map (item_names scope) items))
      (deduped distinct (listed (is_sole_star items && not (has_right from)) (map (at_place places) cols) P))
  select_answers S from is at distinct =
      deduped_answers base (map (chosen items) (filter keep rows)) (length (flat_map (item_names scope) items)) (listed (is_sole_star items && not (has_right from)) (map (at_place places) cols) P) distinct
      (listed_answers (is_sole_star items && not (has_right from))
      (λ e. let k = and_true (is_sole_star items) (not (has_right from)) e in
      (sole_star items k.0 scope, sym at ∙ text_order S from (not_true (has_right from) k.1) ∙ ap (λ h. upto (length h)) is)))
