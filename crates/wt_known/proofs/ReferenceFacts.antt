-- Known references hold, on every database that satisfies the schema.
use Rattle.std.proofs.Common.{◌≡◌, ◌≢◌, ℕ, zero, suc, ◌-◌, ◌<◌, ◌≤◌, Bool, true, false, not, List, [], ◌∷◌, ◌++◌, map, length, refl, sym, ap, ◌∙◌, subst, inl, inr, arith}
use Rattle.std.specs.Prelude.{◌⊎◌, ◌==◌, ◌&&◌, nat_le, slice_index_or, if◌then◌else◌}
use Rattle.std.specs.List.{list_all}
use Rattle.std.proofs.lemmas.Bool.{false≢true}
use Rattle.std.proofs.lemmas.Grind.{common_steps}
use Rattle.wt_bag.specs.Bags.{Each, distinct}
use Rattle.wt_bag.specs.Choices.{Has}
use Rattle.wt_bag.proofs.EachLaws.{each_of_map, each_implies, each_distinct}
use Rattle.wt_bag.proofs.Counting.{each_from_list_all}
use Rattle.wt_bag.proofs.HasLaws.{each_from_has, has_map, has_from_map, has_flat_map, has_from_flat_map, has_list_any, list_any_has, has_distinct}
use Rattle.wt_bag.proofs.UniqueLists.{each_has}
use Rattle.wt_value.specs.declared.value.Value.{Value}
use Rattle.wt_value.specs.declared.value.Value.TheVariants.{Null}
use Rattle.wt_value.specs.Values.{Tuple, HasNoNull, row_same, row_matches, Matches, value_at, pick}
use Rattle.wt_value.proofs.Comparing.{row_same_decides, row_matches-Decides}
use Rattle.wt_instance.specs.Meeting.{IsMatched, Refers}
use Rattle.wt_schema.specs.declared.schema.Table.{Table}
use Rattle.wt_schema.specs.declared.schema.Reference.{Reference}
use Rattle.wt_schema.specs.Satisfying as holding
use Rattle.wt_schema.specs.Satisfying.{Satisfies, rows_of}
use Rattle.wt_plan.specs.Tree.{PlanTree, table, proj, filtered, inner_join, left_join, in_sub, dedup}
use Rattle.wt_plan.specs.Measures.{width}
use Rattle.wt_plan.specs.Rows.{plan_rows, null_row, joined}
use Rattle.wt_plan.proofs.Together.{null_value}
use Rattle.wt_plan.proofs.Upto.{length_map}
use Rattle.wt_known.specs.Sets.{is_empty, all_below, listed_at, has_pair, pairs_within, all_alike}
use Rattle.wt_known.specs.Facts.{table_of, Origin, nowhere, from_table, origin_if, origin, kept, refers_by, refers}
use Rattle.wt_known.specs.Fitting.{Fits}
use Rattle.wt_known.proofs.Lists.{both_ends, from_filter, has_index, map_map, map_each, each_from_all, any_has}
use Rattle.wt_known.proofs.Agreeing.{or_null_row, and_parts, or_parts, eq_true, pair_of, added_or_pair, at_left, at_right_of}
use Rattle.wt_known.proofs.UniqueFacts.{KeysFilled, at_picked, below, table_holds, wide}

-- each reference has as many target columns as columns
abbrev pub RefersPaired : List Table → Type 0
RefersPaired S = Each (λ (t : Table). Each (λ (r : Reference). length r.target ≡ length r.columns) t.references) S

-- a row comes from one of a table at these columns
abbrev From : List (List Tuple) → ℕ → List ℕ → List ℕ → Tuple → Type 0
From base t xs cols row = (r : Tuple) × Has r (rows_of base t) × (pick cols row ≡ pick xs r)

origin_yes : (b : Bool) (o : Origin) (t : ℕ) (xs : List ℕ) → origin_if b o ≡ from_table t xs → (b ≡ true) × (o ≡ from_table t xs)
origin_yes true o t xs h = (refl, h)
origin_yes false o t xs h = cc

same_table : (t u : ℕ) (xs ys : List ℕ) → from_table t xs ≡ from_table u ys → t ≡ u
same_table t u xs ys h = cc

same_columns : (t u : ℕ) (xs ys : List ℕ) → from_table t xs ≡ from_table u ys → xs ≡ ys
same_columns t u xs ys h = cc

pick_listed : (l cols : List ℕ) (row : Tuple) → Each (λ c. c < length l) cols → pick cols (pick l row) ≡ pick (listed_at l cols) row
pick_listed l cols row h =
    map_each (value_at (pick l row)) (λ c. value_at row (slice_index_or l c 0)) cols (each_implies (λ c. c < length l) (λ c. value_at (pick l row) c ≡ value_at row (slice_index_or l c 0)) cols (λ c k. at_picked l row c k) h)
    ∙ sym (map_map (λ c. slice_index_or l c 0) (value_at row) cols)

pick_left : (cols : List ℕ) (v w : Tuple) (k : ℕ) → length v ≡ k → Each (λ c. c < k) cols → pick cols (v ++ w) ≡ pick cols v
pick_left cols v w k e h = map_each (value_at (v ++ w)) (value_at v) cols (each_implies (λ c. c < k) (λ c. value_at (v ++ w) c ≡ value_at v c) cols (λ c l. at_left v w c (omega (arith, l, e))) h)

pick_right : (cols : List ℕ) (v w : Tuple) (k : ℕ) → length v ≡ k → Each (λ c. k ≤ c) cols → pick cols (v ++ w) ≡ pick (map (λ c. c - k) cols) w
pick_right cols v w k e h =
    map_each (value_at (v ++ w)) (λ c. value_at w (c - k)) cols (each_implies (λ c. k ≤ c) (λ c. value_at (v ++ w) c ≡ value_at w (c - k)) cols (λ c l. at_right_of v w k (c - k) c e (omega (arith, l))) h)
    ∙ sym (map_map (λ c. c - k) (value_at w) cols)

above : (k : ℕ) (cols : List ℕ) → list_all (λ c. nat_le k c) cols ≡ true → Each (λ c. k ≤ c) cols
above k cols h = each_from_list_all (λ c. nat_le k c) (λ c. k ≤ c) (λ c l. grind (arith, common_steps)) cols h

-- no column of the added NULLs is without NULL
added_null : (cols : List ℕ) (n : ℕ) → 0 < length cols → HasNoNull (pick cols (null_row n)) → ⊥
added_null [] n lt h = omega (arith, lt)
added_null (c ∷ cols) n lt h = h.0 (null_value n c)

module _ (S : List Table) (base : List (List Tuple)) (holds : Satisfies S base) (keys : KeysFilled S) where
  -- each row without NULL at the columns has its values there from one row of the table
  pub origin_holds : (p : PlanTree) → Fits S p → (cols : List ℕ) → 0 < length cols → (t : ℕ) (xs : List ℕ) → origin p cols ≡ from_table t xs → (row : Tuple) → Has row (plan_rows base p) → HasNoNull (pick cols row) → From base t xs cols row
  origin_holds (table u w) f cols some t xs e row there filled =
      let parts = origin_yes (all_below w cols) (from_table u cols) t xs e in
      (row, subst (λ n. Has row (rows_of base n)) (same_table u t cols xs parts.1) there, ap (λ (l : List ℕ). pick l row) (same_columns u t cols xs parts.1))
  origin_holds (proj l p) f cols some t xs e row there filled =
      let parts = origin_yes (all_below (length l) cols) (origin p (listed_at l cols)) t xs e in
      let found = has_from_map row (pick l) (plan_rows base p) there in
      let same : pick cols row ≡ pick (listed_at l cols) found.0 = ap (pick cols) found.2 ∙ pick_listed l cols found.0 (below (length l) cols parts.0) in
      let count = length_map (λ c. slice_index_or l c 0) cols in
      let r = origin_holds p f.2 (listed_at l cols) (omega (arith, some, count)) t xs parts.1 found.0 found.1 (subst HasNoNull same filled) in
      (r.0, r.1, same ∙ r.2)
  origin_holds (filtered g l p) f cols some t xs e row there filled = origin_holds p f.1 cols some t xs e row (from_filter _ row (plan_rows base p) there).0 filled
  origin_holds (inner_join a b p q) f cols some t xs e y there filled =
      let one = has_from_flat_map y (λ v. joined a b v (plan_rows base q)) (plan_rows base p) there in
      let pair = pair_of a b one.0 y (plan_rows base q) one.2 in
      here (all_below (width p) cols) refl e one.0 pair.0 pair.3 (each_has (λ v. length v ≡ width p) one.0 (plan_rows base p) (wide S base holds keys p f.2) one.1)
      (λ g k. origin_holds p f.2 cols some t xs g one.0 one.1 k) (λ g some' k. origin_holds q f.3 (map (λ c. c - width p) cols) some' t xs g pair.0 pair.1 k)
    where
      here : (s : Bool) → all_below (width p) cols ≡ s → (if s then origin p cols else origin_if (list_all (λ c. nat_le (width p) c) cols) (origin q (map (λ c. c - width p) cols))) ≡ from_table t xs → (v w : Tuple) → y ≡ v ++ w → length v ≡ width p →
          (origin p cols ≡ from_table t xs → HasNoNull (pick cols v) → From base t xs cols v) →
          (origin q (map (λ c. c - width p) cols) ≡ from_table t xs → 0 < length (map (λ c. c - width p) cols) → HasNoNull (pick (map (λ c. c - width p) cols) w) → From base t xs (map (λ c. c - width p) cols) w) → From base t xs cols y
      here true s e v w is k l r =
          let same : pick cols y ≡ pick cols v = ap (pick cols) is ∙ pick_left cols v w (width p) k (below (width p) cols s) in
          let found = l e (subst HasNoNull same filled) in
          (found.0, found.1, same ∙ found.2)
      here false s e v w is k l r =
          let parts = origin_yes (list_all (λ c. nat_le (width p) c) cols) (origin q (map (λ c. c - width p) cols)) t xs e in
          let same : pick cols y ≡ pick (map (λ c. c - width p) cols) w = ap (pick cols) is ∙ pick_right cols v w (width p) k (above (width p) cols parts.0) in
          let count = length_map (λ c. c - width p) cols in
          let found = r parts.1 (omega (arith, some, count)) (subst HasNoNull same filled) in
          (found.0, found.1, same ∙ found.2)
  origin_holds (left_join a b p q) f cols some t xs e y there filled =
      let one = has_from_flat_map y (λ v. or_null_row (width q) v (joined a b v (plan_rows base q))) (plan_rows base p) there in
      let begun = begins one.0 y (added_or_pair (width q) one.0 y (joined a b one.0 (plan_rows base q)) one.2) in
      here (all_below (width p) cols) refl e one.0 begun.0 begun.1 begun.2 (each_has (λ v. length v ≡ width p) one.0 (plan_rows base p) (wide S base holds keys p f.2) one.1)
      (λ g k. origin_holds p f.2 cols some t xs g one.0 one.1 k) (λ g some' w there' k. origin_holds q f.3 (map (λ c. c - width p) cols) some' t xs g w there' k)
    where
      begins : (v y : Tuple) → (y ≡ v ++ null_row (width q)) ⊎ Has y (joined a b v (plan_rows base q)) → (w : Tuple) × (y ≡ v ++ w) × ((w ≡ null_row (width q)) ⊎ Has w (plan_rows base q))
      begins v y (inl e) = (null_row (width q), e, inl refl)
      begins v y (inr there) = let pair = pair_of a b v y (plan_rows base q) there in (pair.0, pair.3, inr pair.1)

      here : (s : Bool) → all_below (width p) cols ≡ s → (if s then origin p cols else origin_if (list_all (λ c. nat_le (width p) c) cols) (origin q (map (λ c. c - width p) cols))) ≡ from_table t xs → (v w : Tuple) → y ≡ v ++ w → (w ≡ null_row (width q)) ⊎ Has w (plan_rows base q) → length v ≡ width p →
          (origin p cols ≡ from_table t xs → HasNoNull (pick cols v) → From base t xs cols v) →
          (origin q (map (λ c. c - width p) cols) ≡ from_table t xs → 0 < length (map (λ c. c - width p) cols) → (w : Tuple) → Has w (plan_rows base q) → HasNoNull (pick (map (λ c. c - width p) cols) w) → From base t xs (map (λ c. c - width p) cols) w) → From base t xs cols y
      here true s e v w is kind k l r =
          let same : pick cols y ≡ pick cols v = ap (pick cols) is ∙ pick_left cols v w (width p) k (below (width p) cols s) in
          let found = l e (subst HasNoNull same filled) in
          (found.0, found.1, same ∙ found.2)
      here false s e v w is kind k l r =
          let parts = origin_yes (list_all (λ c. nat_le (width p) c) cols) (origin q (map (λ c. c - width p) cols)) t xs e in
          let same : pick cols y ≡ pick (map (λ c. c - width p) cols) w = ap (pick cols) is ∙ pick_right cols v w (width p) k (above (width p) cols parts.0) in
          let count = length_map (λ c. c - width p) cols in
          let more : 0 < length (map (λ c. c - width p) cols) = omega (arith, some, count) in
          elim kind [
            | inl n ↦ absurd (added_null (map (λ c. c - width p) cols) (width q) more (subst (λ z. HasNoNull (pick (map (λ c. c - width p) cols) z)) n (subst HasNoNull same filled)))
            | inr h ↦ (let found = r parts.1 more w h (subst HasNoNull same filled) in (found.0, found.1, same ∙ found.2))
          ]
  origin_holds (in_sub a p q) f cols some t xs e row there filled = origin_holds p f.1 cols some t xs e row (from_filter _ row (plan_rows base p) there).0 filled
  origin_holds (dedup p) f cols some t xs e row there filled = origin_holds p f cols some t xs e row (each_has (λ z. Has z (plan_rows base p)) row (distinct row_same (plan_rows base p)) (each_distinct (λ z. Has z (plan_rows base p)) row_same (plan_rows base p) (each_from_has _ (plan_rows base p) (λ z h. h))) there) filled

  -- each row of the table gives its values to a row of the target
  pub kept_holds : (q : PlanTree) → Fits S q → (cols : List ℕ) (t : ℕ) (ys : List ℕ) → kept q cols ≡ from_table t ys → (r : Tuple) → Has r (rows_of base t) → (row : Tuple) × Has row (plan_rows base q) × (pick cols row ≡ pick ys r)
  kept_holds (table u w) f cols t ys e r there =
      let parts = origin_yes (all_below w cols) (from_table u cols) t ys e in
      (r, subst (λ n. Has r (rows_of base n)) (sym (same_table u t cols ys parts.1)) there, ap (λ (l : List ℕ). pick l r) (same_columns u t cols ys parts.1))
  kept_holds (proj l p) f cols t ys e r there =
      let parts = origin_yes (all_below (length l) cols) (kept p (listed_at l cols)) t ys e in
      let found = kept_holds p f.2 (listed_at l cols) t ys parts.1 r there in
      (pick l found.0, has_map found.0 (pick l) (plan_rows base p) found.1, pick_listed l cols found.0 (below (length l) cols parts.0) ∙ found.2)
  kept_holds (filtered g l p) f cols t ys e r there = cc
  kept_holds (inner_join a b p q) f cols t ys e r there = cc
  kept_holds (left_join a b p q) f cols t ys e r there =
      let parts = origin_yes (all_below (width p) cols) (kept p cols) t ys e in
      let found = kept_holds p f.2 cols t ys parts.1 r there in
      let begun = begins found.0 (joined a b found.0 (plan_rows base q)) (λ y h. let pair = pair_of a b found.0 y (plan_rows base q) h in (pair.0, pair.3)) in
      let k = each_has (λ v. length v ≡ width p) found.0 (plan_rows base p) (wide S base holds keys p f.2) found.1 in
      (found.0 ++ begun.0, has_flat_map found.0 (found.0 ++ begun.0) (λ v. or_null_row (width q) v (joined a b v (plan_rows base q))) (plan_rows base p) found.1 begun.1, pick_left cols found.0 begun.0 (width p) k (below (width p) cols parts.0) ∙ found.2)
    where
      begins : (v : Tuple) (rows : List Tuple) → ((y : Tuple) → Has y rows → (w : Tuple) × (y ≡ v ++ w)) → (w : Tuple) × Has (v ++ w) (or_null_row (width q) v rows)
      begins v [] h = (null_row (width q), inl refl)
      begins v (row ∷ rows) h = let first = h row (inl refl) in (first.0, inl (sym first.1))
  kept_holds (in_sub a p q) f cols t ys e r there = cc
  kept_holds (dedup p) f cols t ys e r there = let found = kept_holds p f cols t ys e r there in (found.0, has_distinct row_same row_same_decides found.0 (plan_rows base p) found.1, found.2)

alike_same : (xs ys : List ℕ) → length xs ≡ length ys → all_alike xs ys ≡ true → xs ≡ ys
alike_same [] [] e h = refl
alike_same [] (y ∷ ys) e h = absurd (omega (arith, e))
alike_same (x ∷ xs) [] e h = absurd (omega (arith, e))
alike_same (x ∷ xs) (y ∷ ys) e h = let parts = and_parts (x == y) (all_alike xs ys) h in both_ends x y xs ys (eq_true x y parts.0) (alike_same xs ys (omega (arith, e)) parts.1)

heads : (v w : Value) (vs ws : Tuple) → v ∷ vs ≡ w ∷ ws → v ≡ w
heads v w vs ws e = cc

tails : (v w : Value) (vs ws : Tuple) → v ∷ vs ≡ w ∷ ws → vs ≡ ws
tails v w vs ws e = cc

pair_value : (x y : ℕ) (cs ds : List ℕ) (r s : Tuple) → has_pair x y cs ds ≡ true → pick cs r ≡ pick ds s → value_at r x ≡ value_at s y
pair_value x y [] ds r s h e = absurd (false≢true h)
pair_value x y (c ∷ cs) [] r s h e = absurd (false≢true h)
pair_value x y (c ∷ cs) (d ∷ ds) r s h e = elim (or_parts ((x == c) && (y == d)) (has_pair x y cs ds) h) [
  | inl k ↦ (let parts = and_parts (x == c) (y == d) k in ap (value_at r) (eq_true x c parts.0) ∙ heads _ _ _ _ e ∙ ap (value_at s) (sym (eq_true y d parts.1)))
  | inr k ↦ pair_value x y cs ds r s k (tails _ _ _ _ e)
]

pair_first : (x y : ℕ) (cs ds : List ℕ) → has_pair x y cs ds ≡ true → Has x cs
pair_first x y [] ds h = absurd (false≢true h)
pair_first x y (c ∷ cs) [] h = absurd (false≢true h)
pair_first x y (c ∷ cs) (d ∷ ds) h = elim (or_parts ((x == c) && (y == d)) (has_pair x y cs ds) h) [ inl k ↦ inl (eq_true x c (and_parts (x == c) (y == d) k).0) | inr k ↦ inr (pair_first x y cs ds k) ]

paired_values : (xs ys cs ds : List ℕ) (r s : Tuple) → length xs ≡ length ys → pairs_within xs ys cs ds ≡ true → pick cs r ≡ pick ds s → pick xs r ≡ pick ys s
paired_values [] [] cs ds r s e h m = refl
paired_values [] (y ∷ ys) cs ds r s e h m = absurd (omega (arith, e))
paired_values (x ∷ xs) [] cs ds r s e h m = absurd (omega (arith, e))
paired_values (x ∷ xs) (y ∷ ys) cs ds r s e h m =
    let parts = and_parts (has_pair x y cs ds) (pairs_within xs ys cs ds) h in both_ends _ _ _ _ (pair_value x y cs ds r s parts.0 m) (paired_values xs ys cs ds r s (omega (arith, e)) parts.1 m)

filled_by : (cs ds xs ys : List ℕ) (r : Tuple) → length cs ≡ length ds → pairs_within cs ds xs ys ≡ true → HasNoNull (pick xs r) → HasNoNull (pick cs r)
filled_by [] ds xs ys r e h filled = tt
filled_by (c ∷ cs) [] xs ys r e h filled = absurd (omega (arith, e))
filled_by (c ∷ cs) (d ∷ ds) xs ys r e h filled =
    let parts = and_parts (has_pair c d xs ys) (pairs_within cs ds xs ys) h in
    (each_has (λ x. value_at r x ≢ Null) c xs (each_of_map (λ v. v ≢ Null) (value_at r) xs filled) (pair_first c d xs ys parts.0), filled_by cs ds xs ys r (omega (arith, e)) parts.1 filled)

picked_lengths : (cols xs : List ℕ) (row r : Tuple) → pick cols row ≡ pick xs r → length cols ≡ length xs
picked_lengths cols xs row r e = sym (length_map (value_at row) cols) ∙ ap length e ∙ length_map (value_at r) xs

not_empty : (cols : List ℕ) → not (is_empty cols) ≡ true → 0 < length cols
not_empty [] h = absurd (false≢true h)
not_empty (c ∷ cols) h = omega arith

module _ (S : List Table) (base : List (List Tuple)) (holds : Satisfies S base) (keys : KeysFilled S) (paired : RefersPaired S) where
  table_here : (t : ℕ) → (r : Reference) → Has r (table_of S t).references → t < length S
  table_here t r h = here S t h
    where
      here : (S : List Table) (t : ℕ) → Has r (table_of S t).references → t < length S
      here [] t h = absurd h
      here (x ∷ S) zero h = omega arith
      here (x ∷ S) (suc t) h = let k = here S t h in omega (arith, k)

  -- a known reference holds
  pub refers_holds : (p q : PlanTree) → Fits S p → Fits S q → (cols others : List ℕ) → refers S p cols q others ≡ true → Refers cols others (plan_rows base p) (plan_rows base q)
  refers_holds p q f g cols others h =
      let parts = and_parts ((length cols == length others) && not (is_empty cols)) (refers_by S (origin p cols) (kept q others)) h in
      let sizes = and_parts (length cols == length others) (not (is_empty cols)) parts.0 in
      each_from_has (λ row. HasNoNull (pick cols row) → IsMatched (pick cols row) others (plan_rows base q)) (plan_rows base p)
      (λ row there filled. go (origin p cols) refl (kept q others) refl parts.1 (eq_true (length cols) (length others) sizes.0) (not_empty cols sizes.1) row there filled)
    where
      matched : (row y : Tuple) → HasNoNull (pick cols row) → Has y (plan_rows base q) → pick cols row ≡ pick others y → IsMatched (pick cols row) others (plan_rows base q)
      matched row y filled there e = list_any_has (λ z. row_matches (pick cols row) (pick others z)) y (plan_rows base q) there ((row_matches-Decides (pick cols row) (pick others y)).1 (e, filled))

      go : (o : Origin) → origin p cols ≡ o → (k : Origin) → kept q others ≡ k → refers_by S o k ≡ true → length cols ≡ length others → 0 < length cols → (row : Tuple) → Has row (plan_rows base p) → HasNoNull (pick cols row) → IsMatched (pick cols row) others (plan_rows base q)
      go nowhere e k e' h sizes some row there filled = absurd (false≢true h)
      go (from_table t xs) e nowhere e' h sizes some row there filled = absurd (false≢true h)
      go (from_table t xs) e (from_table u ys) e' h sizes some row there filled =
          let r = origin_holds S base holds keys p f cols some t xs e row there filled in
          elim (or_parts _ _ h) [
            | inl k ↦ (
                let both = and_parts (t == u) (all_alike xs ys) k in
                let y = kept_holds S base holds keys q g others u ys e' r.0 (subst (λ n. Has r.0 (rows_of base n)) (eq_true t u both.0) r.1) in
                let one = picked_lengths cols xs row r.0 r.2 in
                let two = picked_lengths others ys y.0 r.0 y.2 in
                matched row y.0 filled y.1 (r.2 ∙ ap (λ (l : List ℕ). pick l r.0) (alike_same xs ys (omega (arith, one, two, sizes)) both.1) ∙ sym y.2))
            | inr k ↦ (
                let found = has_list_any (λ (R : Reference). (R.table == u) && (pairs_within xs ys R.columns R.target && pairs_within R.columns R.target xs ys)) (table_of S t).references k in
                let R = found.0 in
                let first = and_parts (R.table == u) (pairs_within xs ys R.columns R.target && pairs_within R.columns R.target xs ys) found.2 in
                let both = and_parts (pairs_within xs ys R.columns R.target) (pairs_within R.columns R.target xs ys) first.1 in
                let lt = table_here t R found.1 in
                let holding_here = each_from_all _ _ (each_has (λ (r : Reference). holding.ReferenceHolds (rows_of base t) (rows_of base r.table) r) R (table_of S t).references (each_from_all _ _ (table_holds S base holds keys t lt).references_hold) found.1) in
                let own = each_has (holding.Refers R (rows_of base R.table)) r.0 (rows_of base t) holding_here r.1 in
                let equally = each_has (λ (x : Reference). length x.target ≡ length x.columns) R (table_of S t).references (each_has (λ (x : Table). Each (λ (z : Reference). length z.target ≡ length z.columns) x.references) (table_of S t) S paired (has_index S t _ lt)) found.1 in
                let target = any_has (λ z. Matches (pick R.columns r.0) (pick R.target z)) (rows_of base R.table) (own (filled_by R.columns R.target xs ys r.0 (sym equally) both.1 (subst HasNoNull r.2 filled))) in
                let y = kept_holds S base holds keys q g others u ys e' target.0 (subst (λ n. Has target.0 (rows_of base n)) (eq_true R.table u first.0) target.1) in
                let one = picked_lengths cols xs row r.0 r.2 in
                let two = picked_lengths others ys y.0 target.0 y.2 in
                matched row y.0 filled y.1 (r.2 ∙ paired_values xs ys R.columns R.target r.0 target.0 (omega (arith, one, two, sizes)) both.0 target.2.0 ∙ sym y.2))
          ]
