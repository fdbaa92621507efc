-- The facts in the words of instances, and which plans fit.
use Rattle.std.proofs.Common.{◌≡◌, ◌≢◌, ℕ, zero, suc, ◌<◌, Bool, true, false, List, [], ◌∷◌, length, refl, ◌∙◌, arith}
use Rattle.std.specs.List.{list_all}
use Rattle.wt_bag.specs.Bags.{Each}
use Rattle.wt_bag.proofs.EachLaws.{each_map, each_implies}
use Rattle.wt_bag.proofs.Counting.{each_from_list_all}
use Rattle.wt_value.specs.declared.value.Value.TheVariants.{Null}
use Rattle.wt_value.specs.Values.{Tuple, row_matches, value_at, pick}
use Rattle.wt_value.proofs.Comparing.{row_matches-Decides}
use Rattle.wt_instance.specs.Meeting.{IsUnique, IsNotNull, Refers}
use Rattle.wt_schema.specs.declared.schema.Key.{Key}
use Rattle.wt_schema.specs.declared.schema.Reference.{Reference}
use Rattle.wt_schema.specs.declared.schema.Table.{Table}
use Rattle.wt_schema.specs.Lawful.{IsKey, IsReference, IsSchema, IsTable, width_of}
use Rattle.wt_schema.specs.Satisfying.{Satisfies}
use Rattle.wt_plan.specs.Tree.{PlanTree, table, proj, filtered, inner_join, left_join, in_sub, dedup}
use Rattle.wt_plan.specs.Rows.{plan_rows}
use Rattle.wt_plan.specs.WellFormed.{PlacesFit}
use Rattle.wt_plan.specs.Regular.{Regular, RegularNodes}
use Rattle.wt_known.specs.Facts.{unique, not_null, refers, table_of}
use Rattle.wt_known.specs.Fitting.{Fits}
use Rattle.wt_known.proofs.Lists.{each_from_all, later_implies}
use Rattle.wt_known.proofs.Agreeing.{Agree, from_match}
use Rattle.wt_plan.specs.Measures.{width}
use Rattle.wt_plan.proofs.Widths.{Wide}
use Rattle.wt_known.proofs.UniqueFacts.{KeysFilled, unique_holds, wide}
use Rattle.wt_known.proofs.NullFacts.{not_null_holds}
use Rattle.wt_known.proofs.ReferenceFacts.{RefersPaired, refers_holds}

pub keys_filled : (S : List Table) → IsSchema S → KeysFilled S
keys_filled S is = each_implies (IsTable S) (λ t. Each (λ (key : Key). 0 < length key.columns) t.keys) S
    (λ t h. each_implies (IsKey (length t.columns)) (λ (key : Key). 0 < length key.columns) t.keys (λ key k. omega (arith, k.some)) (each_from_all _ _ h.keys)) (each_from_all _ _ is.each)

refers_paired : (S : List Table) → IsSchema S → RefersPaired S
refers_paired S is = each_implies (IsTable S) (λ t. Each (λ (r : Reference). length r.target ≡ length r.columns) t.references) S
    (λ t h. each_implies (IsReference S (length t.columns)) (λ (r : Reference). length r.target ≡ length r.columns) t.references (λ r k. k.equally_many) (each_from_all _ _ h.references)) (each_from_all _ _ is.each)

apart : (cols : List ℕ) (x y : Tuple) (b : Bool) → row_matches (pick cols x) (pick cols y) ≡ b → (Agree cols x y → ⊥) → row_matches (pick cols x) (pick cols y) ≡ false
apart cols x y false e h = e
apart cols x y true e h = absurd (h (from_match cols x y ((row_matches-Decides (pick cols x) (pick cols y)).0 e)))

no_nulls : (rows : List Tuple) (cols : List ℕ) → Each (λ c. Each (λ row. value_at row c ≢ Null) rows) cols → IsNotNull cols rows
no_nulls [] cols h = tt
no_nulls (row ∷ rows) cols h = (
  each_map (λ v. v ≢ Null) (value_at row) cols (each_implies (λ c. Each (λ r. value_at r c ≢ Null) (row ∷ rows)) (λ c. value_at row c ≢ Null) cols (λ c k. k.0) h),
  no_nulls rows cols (each_implies (λ c. Each (λ r. value_at r c ≢ Null) (row ∷ rows)) (λ c. Each (λ r. value_at r c ≢ Null) rows) cols (λ c k. k.1) h),
)

module _ (S : List Table) (is : IsSchema S) (base : List (List Tuple)) (holds : Satisfies S base) where
  pub is_unique : (p : PlanTree) → Fits S p → (cols : List ℕ) → unique S p cols ≡ true → IsUnique cols (plan_rows base p)
  is_unique p f cols h = later_implies (λ x y. Agree cols x y → ⊥) (λ x y. row_matches (pick cols x) (pick cols y) ≡ false) (plan_rows base p) (λ x y hx hy a. apart cols x y _ refl a)
      (unique_holds S base holds (keys_filled S is) p f cols h)

  -- its rows are as wide as it says
  pub rows_wide : (p : PlanTree) → Fits S p → Wide (width p) (plan_rows base p)
  rows_wide p f = wide S base holds (keys_filled S is) p f

  pub is_not_null : (p : PlanTree) → Fits S p → (cols : List ℕ) → list_all (not_null S p) cols ≡ true → IsNotNull cols (plan_rows base p)
  is_not_null p f cols h = no_nulls (plan_rows base p) cols
      (each_from_list_all (not_null S p) (λ c. Each (λ row. value_at row c ≢ Null) (plan_rows base p)) (λ c k. not_null_holds S base holds (keys_filled S is) p f c k) cols h)

  pub does_refer : (p q : PlanTree) → Fits S p → Fits S q → (cols others : List ℕ) → refers S p cols q others ≡ true → Refers cols others (plan_rows base p) (plan_rows base q)
  does_refer p q f g cols others h = refers_holds S base holds (keys_filled S is) (refers_paired S is) p q f g cols others h

-- Which plans fit.

table_width : (S : List Table) (n : ℕ) → n < length S → width_of S n ≡ length (table_of S n).columns
table_width [] n h = absurd (omega (arith, h))
table_width (t ∷ ts) zero h = refl
table_width (t ∷ ts) (suc n) h = table_width ts n (omega (arith, h))

table_filled : (S : List Table) → Each (λ (t : Table). 0 < length t.columns) S → (n : ℕ) → n < length S → 0 < length (table_of S n).columns
table_filled [] h n lt = absurd (omega (arith, lt))
table_filled (t ∷ ts) h zero lt = h.0
table_filled (t ∷ ts) h (suc n) lt = table_filled ts h.1 n (omega (arith, lt))

list_filled : (cols : List ℕ) → cols ≢ [] → 0 < length cols
list_filled [] h = absurd (h refl)
list_filled (c ∷ cols) h = omega arith

module _ (S : List Table) (is : IsSchema S) where
  fits_nodes : (p : PlanTree) → PlacesFit p → RegularNodes S p → Fits S p
  fits_nodes (table n w) places nodes =
      let filled = table_filled S (each_implies (IsTable S) (λ (t : Table). 0 < length t.columns) S (λ t h. omega (arith, h.columns.some)) (each_from_all _ _ is.each)) n nodes.0 in
      let same = nodes.1 ∙ table_width S n nodes.0 in
      (nodes.0, same, omega (arith, filled, same))
  fits_nodes (proj cols p) places nodes = (places.0.within, list_filled cols places.0.some, fits_nodes p places.1 nodes.1)
  fits_nodes (filtered pred cols p) places nodes = (places.0.within, fits_nodes p places.2 nodes.1)
  fits_nodes (inner_join a b l r) places nodes = (places.0.lefts.within, places.0.rights.within, fits_nodes l places.1 nodes.1, fits_nodes r places.2 nodes.2)
  fits_nodes (left_join a b l r) places nodes = (places.0.lefts.within, places.0.rights.within, fits_nodes l places.1 nodes.1, fits_nodes r places.2 nodes.2)
  fits_nodes (in_sub cols l r) places nodes = (places.0.within, fits_nodes l places.2 nodes.2, fits_nodes r places.3 nodes.3)
  fits_nodes (dedup p) places nodes = fits_nodes p places nodes.1

  pub regular_fits : (p : PlanTree) → Regular S p → Fits S p
  regular_fits p h = fits_nodes p h.well_formed.places h.nodes
