-- The rows of a plan under conditions are those at which the conditions hold.
use Rattle.std.proofs.Common.{◌≡◌, ℕ, zero, suc, Bool, true, false, ◌&&◌, cond, List, [], ◌∷◌, ◌++◌, map, length, get_or, filter, refl, sym, ap, subst, ◌∙◌}
use Rattle.std.specs.List.{list_any}
use Rattle.wt_bag.specs.Bags.{Each}
use Rattle.wt_bag.proofs.EachLaws.{each_implies, each_filter, filter_each}
use Rattle.wt_value.specs.declared.value.Value.TheVariants.{Null}
use Rattle.wt_value.specs.Values.{Tuple, row_matches, value_at, pick}
use Rattle.wt_plan.specs.Rows.{is_true, plan_rows}
use Rattle.wt_plan.specs.Tree.{PlanTree}
use Rattle.wt_plan.specs.Measures.{width}
use Rattle.wt_query_plan.specs.Building.{Conjunct, keeps, is_in, at_place, above, stacked}
use Rattle.wt_pred.specs.Meaning.{truth}
use Rattle.wt_pred.specs.Columns.{columns, renumbered, place_in}
use Rattle.wt_pred.proofs.TruthLaws.{keeps_truth}
use Rattle.wt_pred.proofs.Using.{columns_there}
use Rattle.wt_plan.proofs.Together.{value_past, filter_true, filter_filter}
use Rattle.wt_plan.proofs.Widths.{Wide}

-- a conjunct over places, at a row in the order of the text
abbrev pub holds_at : List (List Tuple) → Conjunct → Tuple → Bool
holds_at base (keeps p) z = is_true (truth p z)
holds_at base (is_in cols q) z = list_any (λ y. row_matches (map (value_at z) cols) y) (plan_rows base q)

abbrev pub all_at : List (List Tuple) → List Conjunct → Tuple → Bool
all_at base [] z = true
all_at base (j ∷ js) z = holds_at base j z && all_at base js z

pub all_append : (base : List (List Tuple)) (js ks : List Conjunct) (z : Tuple) → all_at base (js ++ ks) z ≡ all_at base js z && all_at base ks z
all_append base [] ks z = refl
all_append base (j ∷ js) ks z = ap (λ b. holds_at base j z && b) (all_append base js ks z) ∙ and_and (holds_at base j z) (all_at base js z) (all_at base ks z)
  where
    and_and : (a b c : Bool) → (a && (b && c)) ≡ ((a && b) && c)
    and_and true b c = refl
    and_and false b c = refl

place_value : (v : Tuple) (d : ℕ) → value_at v d ≡ Null → (places : List ℕ) (k : ℕ) → value_at v (get_or places k d) ≡ value_at (pick places v) k
place_value v d e [] k = e
place_value v d e (p ∷ places) zero = refl
place_value v d e (p ∷ places) (suc k) = place_value v d e places k

-- the value at a place in the plan's row is the value at the place in the text
pub at_place_value : (v : Tuple) (places : List ℕ) → length v ≡ length places → (k : ℕ) → value_at v (at_place places k) ≡ value_at (pick places v) k
at_place_value v places e k = place_value v (length places) (ap (value_at v) (sym e) ∙ value_past v) places k

pub pick_places : (v : Tuple) (places : List ℕ) → length v ≡ length places → (cols : List ℕ) → pick (map (at_place places) cols) v ≡ map (value_at (pick places v)) cols
pick_places v places e [] = refl
pick_places v places e (c ∷ cols) = λ i. at_place_value v places e c i ∷ pick_places v places e cols i

module _ (base : List (List Tuple)) (places : List ℕ) where
  pub above_rows : (j : Conjunct) (plan : PlanTree) → Wide (length places) (plan_rows base plan)
      → plan_rows base (above places j plan) ≡ filter (λ v. holds_at base j (pick places v)) (plan_rows base plan)
  above_rows (keeps p) plan w = filter_each _ _ (plan_rows base plan) (each_implies (λ v. length v ≡ length places)
      (λ v. is_true (truth (renumbered (place_in (columns p)) p) (pick (map (at_place places) (columns p)) v)) ≡ is_true (truth p (pick places v))) (plan_rows base plan)
      (λ v e. ap (λ r. is_true (truth (renumbered (place_in (columns p)) p) r)) (pick_places v places e (columns p))
      ∙ ap is_true (keeps_truth (columns p) p (columns_there [] (columns p) p refl) (pick places v))) w)
  above_rows (is_in cols q) plan w = filter_each _ _ (plan_rows base plan) (each_implies (λ v. length v ≡ length places)
      (λ v. list_any (λ y. row_matches (pick (map (at_place places) cols) v) y) (plan_rows base q) ≡ list_any (λ y. row_matches (map (value_at (pick places v)) cols) y) (plan_rows base q)) (plan_rows base plan)
      (λ v e. ap (λ r. list_any (λ y. row_matches r y) (plan_rows base q)) (pick_places v places e cols)) w)

  pub stacked_rows : (js : List Conjunct) (plan : PlanTree) → Wide (length places) (plan_rows base plan)
      → plan_rows base (stacked places js plan) ≡ filter (λ v. all_at base js (pick places v)) (plan_rows base plan)
  stacked_rows [] plan w = filter_true (plan_rows base plan)
  stacked_rows (j ∷ js) plan w =
      let same = above_rows j plan w in
      stacked_rows js (above places j plan) (subst (Wide (length places)) (sym same) (each_filter (λ v. length v ≡ length places) (λ v. holds_at base j (pick places v)) (plan_rows base plan) w))
      ∙ ap (filter (λ v. all_at base js (pick places v))) same
      ∙ filter_filter (λ v. holds_at base j (pick places v)) (λ v. all_at base js (pick places v)) (plan_rows base plan)

  width_above : (j : Conjunct) (plan : PlanTree) → width (above places j plan) ≡ width plan
  width_above (keeps p) plan = refl
  width_above (is_in cols q) plan = refl

  pub width_stacked : (js : List Conjunct) (plan : PlanTree) → width (stacked places js plan) ≡ width plan
  width_stacked [] plan = refl
  width_stacked (j ∷ js) plan = width_stacked js (above places j plan) ∙ width_above j plan
