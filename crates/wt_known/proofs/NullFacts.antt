-- Columns that are known to be without NULL are so, on every database that satisfies the schema.
use Rattle.std.proofs.Common.{◌≡◌, ◌≢◌, ℕ, zero, suc, ◌+◌, ◌-◌, ◌<◌, ◌≤◌, Bool, true, false, List, [], ◌∷◌, ◌++◌, filter, length, refl, sym, ap, ◌∙◌, subst, inl, inr, arith}
use Rattle.std.specs.Prelude.{◌⊎◌, ◌==◌, ◌&&◌, ◌||◌, nat_lt, flat_map, slice_index_or, if◌then◌else◌}
use Rattle.std.specs.List.{list_any}
use Rattle.std.proofs.lemmas.Bool.{false≢true}
use Rattle.std.proofs.lemmas.Grind.{common_steps}
use Rattle.wt_bag.specs.Bags.{Each}
use Rattle.wt_bag.specs.Choices.{Has}
use Rattle.wt_bag.proofs.EachLaws.{each_map, each_of_map, each_filter, each_implies, each_distinct}
use Rattle.wt_bag.proofs.HasLaws.{each_from_has, has_from_flat_map, has_list_any}
use Rattle.wt_bag.proofs.UniqueLists.{each_has}
use Rattle.wt_value.specs.declared.value.Value.TheVariants.{Null}
use Rattle.wt_value.specs.declared.value.Truth.{Truth}
use Rattle.wt_value.specs.declared.value.Truth.TheVariants.{False, Unknown, True}
use Rattle.wt_value.specs.Values.{Tuple, HasNoNull, row_same, row_matches, value_at, pick}
use Rattle.wt_value.proofs.Comparing.{row_matches-Decides}
use Rattle.wt_pred.specs.Tree.{PredTree}
use Rattle.wt_pred.specs.Nulls.{never_true}
use Rattle.wt_pred.proofs.NullLaws.{rejects}
use Rattle.wt_schema.specs.declared.schema.Table.{Table}
use Rattle.wt_schema.specs.declared.schema.Key.{Key}
use Rattle.wt_schema.specs.declared.schema.Column.{Column}
use Rattle.wt_schema.specs.Satisfying.{Satisfies, KeyHolds, RowFits, rows_of}
use Rattle.wt_plan.specs.Tree.{PlanTree, table, proj, filtered, inner_join, left_join, in_sub, dedup}
use Rattle.wt_plan.specs.Measures.{width}
use Rattle.wt_plan.specs.Rows.{plan_rows, null_row, joined, passes, is_true}
use Rattle.wt_known.specs.Sets.{is_in}
use Rattle.wt_known.specs.Facts.{rejected, is_declared, not_null, table_of}
use Rattle.wt_known.specs.Fitting.{Fits}
use Rattle.wt_known.proofs.Lists.{from_filter, each_from_all}
use Rattle.wt_known.proofs.Agreeing.{or_null_row, and_parts, or_parts, lt_true, eq_true, has_in, pair_of, added_or_pair, at_left, at_right_of}
use Rattle.wt_known.proofs.UniqueFacts.{KeysFilled, at_picked, table_holds, wide}

true_truth : (t : Truth) → is_true t ≡ true → t ≡ True
true_truth True h = refl
true_truth Unknown h = absurd (false≢true h)
true_truth False h = absurd (false≢true h)

column_filled : (columns : List Column) (row : Tuple) (c : ℕ) → RowFits columns row → is_declared columns c ≡ true → value_at row c ≢ Null
column_filled [] row c fits h = absurd (false≢true h)
column_filled (x ∷ columns) [] c fits h = absurd fits
column_filled (x ∷ columns) (v ∷ row) zero fits h = fits.0.1 h
column_filled (x ∷ columns) (v ∷ row) (suc c) fits h = column_filled columns row c fits.1 h

-- a row that matches at some columns has no NULL at one of them
matched_filled : (cols : List ℕ) (row other : Tuple) (c : ℕ) → row_matches (pick cols row) other ≡ true → is_in c cols ≡ true → value_at row c ≢ Null
matched_filled cols row other c m there = each_has (λ d. value_at row d ≢ Null) c cols (each_of_map (λ v. v ≢ Null) (value_at row) cols ((row_matches-Decides (pick cols row) other).0 m).1) (has_in c cols there)

rejected_place : (f : PredTree) (l : List ℕ) (k c : ℕ) → rejected f l k c ≡ true → (j : ℕ) × (j < length l) × (slice_index_or l j 0 ≡ c) × (never_true (k + j) f ≡ true)
rejected_place f [] k c h = absurd (false≢true h)
rejected_place f (d ∷ l) k c h = elim (or_parts ((d == c) && never_true k f) (rejected f l (suc k) c) h) [
  | inl e ↦ (let parts = and_parts (d == c) (never_true k f) e in let same : k ≡ k + 0 = omega arith in (0, omega arith, eq_true d c parts.0, subst (λ n. never_true n f ≡ true) same parts.1))
  | inr e ↦ (let found = rejected_place f l (suc k) c e in let same : suc k + found.0 ≡ k + suc found.0 = omega arith in let lt = found.1 in (suc found.0, omega (arith, lt), found.2, subst (λ n. never_true n f ≡ true) same found.3))
]

module _ (S : List Table) (base : List (List Tuple)) (holds : Satisfies S base) (keys : KeysFilled S) where
  table_filled : (t w c : ℕ) → Fits S (table t w) → not_null S (table t w) c ≡ true → (row : Tuple) → Has row (rows_of base t) → value_at row c ≢ Null
  table_filled t w c f h row there = elim (or_parts _ _ h) [
    | inl k ↦ column_filled (table_of S t).columns row c (each_has (RowFits (table_of S t).columns) row (rows_of base t) (each_from_all _ _ (table_holds S base holds keys t f.0).rows_fit) there) k
    | inr k ↦ (
        let found = has_list_any (λ (key : Key). key.primary && is_in c key.columns) (table_of S t).keys k in
        let parts = and_parts found.0.primary (is_in c found.0.columns) found.2 in
        let key_holds : KeyHolds (rows_of base t) found.0 = each_has (KeyHolds (rows_of base t)) found.0 (table_of S t).keys (each_from_all _ _ (table_holds S base holds keys t f.0).keys_hold) found.1 in
        let filled = each_has (λ l. HasNoNull (pick found.0.columns l)) row (rows_of base t) (each_from_all _ _ (key_holds.0 parts.0)) there in
        each_has (λ d. value_at row d ≢ Null) c found.0.columns (each_of_map (λ v. v ≢ Null) (value_at row) found.0.columns filled) (has_in c found.0.columns parts.1))
  ]

  -- a column that is known to be without NULL has none
  pub not_null_holds : (p : PlanTree) → Fits S p → (c : ℕ) → not_null S p c ≡ true → Each (λ row. value_at row c ≢ Null) (plan_rows base p)
  not_null_holds (table t w) f c h = each_from_has _ (rows_of base t) (table_filled t w c f h)
  not_null_holds (proj l p) f c h =
      let parts = and_parts (nat_lt c (length l)) (not_null S p (slice_index_or l c 0)) h in
      let lt = lt_true c (length l) parts.0 in
      each_map (λ row. value_at row c ≢ Null) (pick l) (plan_rows base p)
      (each_implies (λ row. value_at row (slice_index_or l c 0) ≢ Null) (λ row. value_at (pick l row) c ≢ Null) (plan_rows base p) (λ row k e. k (sym (at_picked l row c lt) ∙ e)) (not_null_holds p f.2 (slice_index_or l c 0) parts.1))
  not_null_holds (filtered g l p) f c h = elim (or_parts (not_null S p c) (rejected g l 0 c) h) [
    | inl k ↦ each_filter (λ row. value_at row c ≢ Null) _ (plan_rows base p) (not_null_holds p f.1 c k)
    | inr k ↦ (
        let found = rejected_place g l 0 c k in
        let same : 0 + found.0 ≡ found.0 = omega arith in
        let never = subst (λ n. never_true n g ≡ true) same found.3 in
        each_from_has (λ row. value_at row c ≢ Null) (filter (λ row. passes g l row) (plan_rows base p))
        (λ row there null.
        rejects found.0 g never (pick l row) (at_picked l row found.0 found.1 ∙ ap (value_at row) found.2 ∙ null)
        (true_truth _ (from_filter (λ x. passes g l x) row (plan_rows base p) there).1)))
  ]
  not_null_holds (inner_join a b p q) f c h =
      each_from_has (λ row. value_at row c ≢ Null) (flat_map (λ v. joined a b v (plan_rows base q)) (plan_rows base p))
      (λ y there.
      let one = has_from_flat_map y (λ v. joined a b v (plan_rows base q)) (plan_rows base p) there in
      let pair = pair_of a b one.0 y (plan_rows base q) one.2 in
      let e = each_has (λ v. length v ≡ width p) one.0 (plan_rows base p) (wide S base holds keys p f.2) one.1 in
      here (nat_lt c (width p)) refl h one.0 pair.0 y pair.3 one.1 pair.1 pair.2 e (λ k. not_null_holds p f.2 c k) (λ k. not_null_holds q f.3 (c - width p) k))
    where
      from_lists : (v w : Tuple) → row_matches (pick a v) (pick b w) ≡ true → row_matches (pick b w) (pick a v) ≡ true
      from_lists v w m = let parts = (row_matches-Decides (pick a v) (pick b w)).0 m in (row_matches-Decides (pick b w) (pick a v)).1 (sym parts.0, subst HasNoNull parts.0 parts.1)

      here : (t : Bool) → nat_lt c (width p) ≡ t → (if t then not_null S p c || is_in c a else not_null S q (c - width p) || is_in (c - width p) b) ≡ true → (v w y : Tuple) → y ≡ v ++ w → Has v (plan_rows base p) → Has w (plan_rows base q) →
          row_matches (pick a v) (pick b w) ≡ true → length v ≡ width p → (not_null S p c ≡ true → Each (λ row. value_at row c ≢ Null) (plan_rows base p)) → (not_null S q (c - width p) ≡ true → Each (λ row. value_at row (c - width p) ≢ Null) (plan_rows base q)) → value_at y c ≢ Null
      here true t h v w y e hv hw m k l r null =
          let lt = lt_true c (width p) t in
          let own = at_left v w c (omega (arith, lt, k)) in
          elim (or_parts (not_null S p c) (is_in c a) h) [
            | inl x ↦ each_has (λ row. value_at row c ≢ Null) v (plan_rows base p) (l x) hv (sym own ∙ ap (λ z. value_at z c) (sym e) ∙ null)
            | inr x ↦ matched_filled a v (pick b w) c m x (sym own ∙ ap (λ z. value_at z c) (sym e) ∙ null)
          ]
      here false t h v w y e hv hw m k l r null =
          let le : width p ≤ c = grind (arith, common_steps) in
          let own = at_right_of v w (width p) (c - width p) c k (omega (arith, le)) in
          elim (or_parts (not_null S q (c - width p)) (is_in (c - width p) b) h) [
            | inl x ↦ each_has (λ row. value_at row (c - width p) ≢ Null) w (plan_rows base q) (r x) hw (sym own ∙ ap (λ z. value_at z c) (sym e) ∙ null)
            | inr x ↦ matched_filled b w (pick a v) (c - width p) (from_lists v w m) x (sym own ∙ ap (λ z. value_at z c) (sym e) ∙ null)
          ]
  not_null_holds (left_join a b p q) f c h =
      let parts = and_parts (nat_lt c (width p)) (not_null S p c) h in
      let lt = lt_true c (width p) parts.0 in
      each_from_has (λ row. value_at row c ≢ Null) (flat_map (λ v. or_null_row (width q) v (joined a b v (plan_rows base q))) (plan_rows base p))
      (λ y there null.
      let one = has_from_flat_map y (λ v. or_null_row (width q) v (joined a b v (plan_rows base q))) (plan_rows base p) there in
      let begun = begins one.0 y (added_or_pair (width q) one.0 y (joined a b one.0 (plan_rows base q)) one.2) in
      let e = each_has (λ v. length v ≡ width p) one.0 (plan_rows base p) (wide S base holds keys p f.2) one.1 in
      each_has (λ row. value_at row c ≢ Null) one.0 (plan_rows base p) (not_null_holds p f.2 c parts.1) one.1 (sym (at_left one.0 begun.0 c (omega (arith, lt, e))) ∙ ap (λ z. value_at z c) (sym begun.1) ∙ null))
    where
      begins : (v y : Tuple) → (y ≡ v ++ null_row (width q)) ⊎ Has y (joined a b v (plan_rows base q)) → (w : Tuple) × (y ≡ v ++ w)
      begins v y (inl e) = (null_row (width q), e)
      begins v y (inr there) = let pair = pair_of a b v y (plan_rows base q) there in (pair.0, pair.3)
  not_null_holds (in_sub a p q) f c h = elim (or_parts (not_null S p c) (is_in c a) h) [
    | inl k ↦ each_filter (λ row. value_at row c ≢ Null) _ (plan_rows base p) (not_null_holds p f.1 c k)
    | inr k ↦ each_from_has (λ row. value_at row c ≢ Null) (filter (λ v. list_any (λ w. row_matches (pick a v) w) (plan_rows base q)) (plan_rows base p))
        (λ row there.
        let passed = (from_filter (λ v. list_any (λ w. row_matches (pick a v) w) (plan_rows base q)) row (plan_rows base p) there).1 in
        let found = has_list_any (λ w. row_matches (pick a row) w) (plan_rows base q) passed in
        matched_filled a row found.0 c found.2 k)
  ]
  not_null_holds (dedup p) f c h = each_distinct (λ row. value_at row c ≢ Null) row_same (plan_rows base p) (not_null_holds p f c h)
