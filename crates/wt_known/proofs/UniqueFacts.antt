-- What is known to be unique is so, on every database that satisfies the schema.
use Rattle.std.proofs.Common.{◌≡◌, ◌≢◌, ℕ, zero, suc, ◌<◌, Bool, true, false, not, List, [], ◌∷◌, ◌++◌, filter, length, refl, sym, ap, ◌∙◌, subst, inl, inr, arith}
use Rattle.std.specs.Prelude.{◌⊎◌, ◌&&◌, ◌||◌, nat_lt, flat_map, slice_index_or}
use Rattle.std.proofs.lemmas.Bool.{false≢true}
use Rattle.wt_bag.specs.Bags.{Each, distinct}
use Rattle.wt_bag.specs.Choices.{EachLater, Has}
use Rattle.wt_bag.proofs.EachLaws.{each_map, each_filter, each_implies, each_both, each_append, each_distinct}
use Rattle.wt_bag.proofs.Counting.{each_from_list_all}
use Rattle.wt_bag.proofs.HasLaws.{each_from_has, has_from_flat_map, has_list_any}
use Rattle.wt_bag.proofs.UniqueLists.{each_has}
use Rattle.wt_value.specs.declared.value.Value.{Value}
use Rattle.wt_value.specs.Values.{Tuple, row_same, value_at, pick}
use Rattle.wt_value.proofs.Comparing.{row_same_decides, row_matches-Decides}
use Rattle.wt_schema.specs.declared.schema.Table.{Table}
use Rattle.wt_schema.specs.declared.schema.Key.{Key}
use Rattle.wt_schema.specs.declared.schema.Column.{Column}
use Rattle.wt_schema.specs.Satisfying.{Satisfies, TableHolds, KeyHolds, RowFits, Differ, rows_of}
use Rattle.wt_plan.specs.Tree.{PlanTree, table, proj, filtered, inner_join, left_join, in_sub, dedup}
use Rattle.wt_plan.specs.Measures.{width}
use Rattle.wt_plan.specs.Rows.{plan_rows, joined}
use Rattle.wt_plan.proofs.Widths.{TablesFit, Wide}
use Rattle.wt_plan.proofs.Widths as widths
use Rattle.wt_known.specs.Sets.{is_in, within, all_below, is_whole, listed_at, lefts, rights, paired_with}
use Rattle.wt_known.specs.Facts.{some_case, unique, table_of}
use Rattle.wt_known.specs.Fitting.{Fits}
use Rattle.wt_known.proofs.Lists.{from_filter, has_index, each_from_all, later_from_pairs, later_implies, later_filter, later_map}
use Rattle.wt_known.proofs.Agreeing.{Same, Agree, UniqueOn, inner_unique, left_unique, agree_paired, to_match, and_parts, or_parts, lt_true, has_in, pair_of}

-- each key has a column
abbrev pub KeysFilled : List Table → Type 0
KeysFilled S = Each (λ (t : Table). Each (λ (key : Key). 0 < length key.columns) t.keys) S

pub length_row : (columns : List Column) (row : Tuple) → RowFits columns row → length row ≡ length columns
length_row [] [] h = refl
length_row [] (v ∷ row) h = absurd h
length_row (c ∷ columns) [] h = absurd h
length_row (c ∷ columns) (v ∷ row) h = ap suc (length_row columns row h.1)

-- each case that is known
true_case : (l b r a : Bool) → some_case l b r a ≡ true → ((l ≡ true) × (b ≡ true)) ⊎ (((r ≡ true) × (a ≡ true)) ⊎ ((l ≡ true) × (r ≡ true)))
true_case l b r a h =
    elim (or_parts (l && b) ((r && a) || (l && r)) h) [
      | inl k ↦ inl (and_parts l b k)
      | inr k ↦ elim (or_parts (r && a) (l && r) k) [ inl j ↦ inr (inl (and_parts r a j)) | inr j ↦ inr (inr (and_parts l r j)) ]
    ]

agree_within : (cols set : List ℕ) (x y : Tuple) → within cols set ≡ true → Agree set x y → Agree cols x y
agree_within cols set x y h agree =
    each_implies (λ c. is_in c set ≡ true) (λ c. Same (value_at x c) (value_at y c)) cols (λ c k. each_has (λ d. Same (value_at x d) (value_at y d)) c set agree (has_in c set k))
    (each_from_list_all (λ c. is_in c set) (λ c. is_in c set ≡ true) (λ c k. k) cols h)

-- the place of a value that was picked
pub at_picked : (l : List ℕ) (row : Tuple) (c : ℕ) → c < length l → value_at (pick l row) c ≡ value_at row (slice_index_or l c 0)
at_picked [] row c h = absurd (omega (arith, h))
at_picked (d ∷ l) row zero h = refl
at_picked (d ∷ l) row (suc c) h = at_picked l row c (omega (arith, h))

agree_picked : (l set : List ℕ) (x y : Tuple) → Each (λ c. c < length l) set → Agree set (pick l x) (pick l y) → Agree (listed_at l set) x y
agree_picked l set x y lt h =
    each_map (λ d. Same (value_at x d) (value_at y d)) (λ c. slice_index_or l c 0) set
    (each_both (λ c. c < length l) (λ c. Same (value_at (pick l x) c) (value_at (pick l y) c)) (λ c. Same (value_at x (slice_index_or l c 0)) (value_at y (slice_index_or l c 0))) set
    (λ c k agree. (sym (at_picked l x c k) ∙ agree.0 ∙ at_picked l y c k, λ n. agree.1 (at_picked l x c k ∙ n))) lt h)

pub below : (w : ℕ) (set : List ℕ) → all_below w set ≡ true → Each (λ c. c < w) set
below w set h = each_from_list_all (λ c. nat_lt c w) (λ c. c < w) (λ c k. lt_true c w k) set h

-- rows that agree at every column are equal
agree_whole : (w : ℕ) (set : List ℕ) (x y : Tuple) → is_whole w set ≡ true → Agree set x y → (c : ℕ) → c < w → value_at x c ≡ value_at y c
agree_whole zero set x y h agree c lt = absurd (omega (arith, lt))
agree_whole (suc w) set x y h agree c lt =
    let parts = and_parts (is_in w set) (is_whole w set) h in
    elim (cases c w lt) [
      | inl e ↦ (each_has (λ d. Same (value_at x d) (value_at y d)) c set agree (has_in c set (ap (λ d. is_in d set) e ∙ parts.0))).0
      | inr k ↦ agree_whole w set x y parts.1 agree c k
    ]
  where
    cases : (c w : ℕ) → c < suc w → (c ≡ w) ⊎ (c < w)
    cases zero zero h = inl refl
    cases zero (suc w) h = inr (omega arith)
    cases (suc c) zero h = absurd (omega (arith, h))
    cases (suc c) (suc w) h = elim (cases c w (omega (arith, h))) [ inl e ↦ inl (ap suc e) | inr k ↦ inr (omega (arith, k)) ]

same_row : (x y : Tuple) → length x ≡ length y → ((c : ℕ) → c < length x → value_at x c ≡ value_at y c) → x ≡ y
same_row [] [] e h = refl
same_row [] (w ∷ y) e h = absurd (omega (arith, e))
same_row (v ∷ x) [] e h = absurd (omega (arith, e))
same_row (v ∷ x) (w ∷ y) e h = both v w x y (h 0 (omega arith)) (same_row x y (omega (arith, e)) (λ c lt. h (suc c) (omega (arith, lt))))
  where
    both : (v w : Value) (x y : Tuple) → v ≡ w → x ≡ y → v ∷ x ≡ w ∷ y
    both v w x y e f = cc

-- distinct rows differ, and what holds of all pairs of rows holds of the pairs of distinct ones
distinct_later : (R : Tuple → Tuple → Type 0) (rows : List Tuple) → EachLater R rows → EachLater R (distinct row_same rows)
distinct_later R [] h = tt
distinct_later R (x ∷ xs) h = (each_filter (R x) _ (distinct row_same xs) (each_distinct (R x) row_same xs h.0), later_filter R _ (distinct row_same xs) (distinct_later R xs h.1))

distinct_differ : (rows : List Tuple) → EachLater (λ x y. x ≢ y) (distinct row_same rows)
distinct_differ [] = tt
distinct_differ (x ∷ xs) = (
  each_from_has (λ y. x ≢ y) (filter (λ y. not (row_same x y)) (distinct row_same xs)) (λ y h e.
      let kept = (from_filter (λ z. not (row_same x z)) y (distinct row_same xs) h).1 in
      absurd (false≢true (sym (ap not (ap (row_same x) (sym e) ∙ row_same_decides.reflexive x)) ∙ kept))),
  later_filter (λ y z. y ≢ z) (λ y. not (row_same x y)) (distinct row_same xs) (distinct_differ xs),
)

paired_none : (k : ℕ) (a b : List ℕ) → paired_with k a b [] ≡ []
paired_none k [] b = refl
paired_none k (x ∷ a) [] = refl
paired_none k (x ∷ a) (y ∷ b) = paired_none k a b

module _ (S : List Table) (base : List (List Tuple)) (holds : Satisfies S base) (keys : KeysFilled S) where
  pub table_holds : (t : ℕ) → t < length S → TableHolds base (table_of S t) (rows_of base t)
  table_holds t lt = holds.each t _ lt

  tables_fit : (p : PlanTree) → Fits S p → TablesFit base p
  tables_fit (table t w) f = each_implies (RowFits (table_of S t).columns) (λ row. length row ≡ w) (rows_of base t) (λ row h. length_row (table_of S t).columns row h ∙ sym f.1) (each_from_all _ _ (table_holds t f.0).rows_fit)
  tables_fit (proj cols p) f = tt
  tables_fit (filtered pred cols p) f = tables_fit p f.1
  tables_fit (inner_join a b p q) f = (tables_fit p f.2, tables_fit q f.3)
  tables_fit (left_join a b p q) f = (tables_fit p f.2, tables_fit q f.3)
  tables_fit (in_sub a p q) f = tables_fit p f.1
  tables_fit (dedup p) f = tables_fit p f

  -- the rows of a plan that fits are as wide as it says
  pub wide : (p : PlanTree) → Fits S p → Wide (width p) (plan_rows base p)
  wide p f = widths.wide base p (tables_fit p f)

  some_width : (p : PlanTree) → Fits S p → 0 < width p
  some_width (table t w) f = f.2
  some_width (proj l p) f = f.1
  some_width (filtered f l p) h = some_width p h.1
  some_width (inner_join a b p q) f = let l = some_width p f.2 in omega (arith, l)
  some_width (left_join a b p q) f = let l = some_width p f.2 in omega (arith, l)
  some_width (in_sub a p q) f = some_width p f.1
  some_width (dedup p) f = some_width p f

  whole_none : (w : ℕ) → 0 < w → is_whole w [] ≡ false
  whole_none zero h = absurd (omega (arith, h))
  whole_none (suc w) h = refl

  -- no columns are never known to be unique
  key_needs : (cols : List ℕ) → 0 < length cols → within cols [] ≡ false
  key_needs [] h = absurd (omega (arith, h))
  key_needs (c ∷ cols) h = refl

  never_empty : (p : PlanTree) → Fits S p → unique S p [] ≡ true → ⊥
  never_empty (table t w) f h =
      let found = has_list_any (λ (key : Key). within key.columns []) (table_of S t).keys h in
      let filled = each_has (λ (u : Table). Each (λ (key : Key). 0 < length key.columns) u.keys) (table_of S t) S keys (has_index S t _ f.0) in
      false≢true (sym (key_needs found.0.columns (each_has (λ (key : Key). 0 < length key.columns) found.0 (table_of S t).keys filled found.1)) ∙ found.2)
  never_empty (proj l p) f h = never_empty p f.2 (and_parts true (unique S p []) h).1
  never_empty (filtered f l p) g h = never_empty p g.1 h
  never_empty (inner_join a b p q) f h =
      let none : unique S p (lefts (width p) (paired_with (width p) a b [])) ≡ unique S p [] = ap (λ (l : List ℕ). unique S p (lefts (width p) l)) (paired_none (width p) a b) in
      let none' : unique S q (rights (width p) (paired_with (width p) a b [])) ≡ unique S q [] = ap (λ (l : List ℕ). unique S q (rights (width p) l)) (paired_none (width p) a b) in
      elim (true_case (unique S p (lefts (width p) (paired_with (width p) a b []))) (unique S q b) (unique S q (rights (width p) (paired_with (width p) a b []))) (unique S p a) h) [
        | inl k ↦ never_empty p f.2 (sym none ∙ k.0)
        | inr k ↦ elim k [ inl j ↦ never_empty q f.3 (sym none' ∙ j.0) | inr j ↦ never_empty p f.2 (sym none ∙ j.0) ]
      ]
  never_empty (left_join a b p q) f h = elim (true_case (unique S p []) (unique S q b) (unique S q []) (unique S p a) h) [
    | inl k ↦ never_empty p f.2 k.0
    | inr k ↦ elim k [ inl j ↦ never_empty q f.3 j.0 | inr j ↦ never_empty p f.2 j.0 ]
  ]
  never_empty (in_sub a p q) f h = never_empty p f.1 h
  never_empty (dedup p) f h = elim (or_parts (unique S p []) (is_whole (width p) []) h) [
    | inl k ↦ never_empty p f k
    | inr k ↦ false≢true (sym (whole_none (width p) (some_width p f)) ∙ k)
  ]

  not_none : (q : PlanTree) → Fits S q → (set : List ℕ) → unique S q set ≡ true → 0 < length set
  not_none q f [] h = absurd (never_empty q f h)
  not_none q f (c ∷ set) h = omega arith

  -- rows of a set that is known to be unique do not match there
  pub unique_holds : (p : PlanTree) → Fits S p → (set : List ℕ) → unique S p set ≡ true → UniqueOn set (plan_rows base p)
  unique_holds (table t w) f set h =
      let found = has_list_any (λ (key : Key). within key.columns set) (table_of S t).keys h in
      let key_holds : KeyHolds (rows_of base t) found.0 = each_has (KeyHolds (rows_of base t)) found.0 (table_of S t).keys (each_from_all _ _ (table_holds t f.0).keys_hold) found.1 in
      later_implies (Differ found.0.columns) (λ x y. Agree set x y → ⊥) (rows_of base t)
      (λ x y hx hy differ agree. differ (to_match found.0.columns x y (agree_within found.0.columns set x y found.2 agree))) (later_from_pairs _ _ key_holds.1)
  unique_holds (proj l p) f set h =
      let parts = and_parts (all_below (length l) set) (unique S p (listed_at l set)) h in
      later_map (λ x y. Agree set x y → ⊥) (pick l) (plan_rows base p)
      (later_implies (λ x y. Agree (listed_at l set) x y → ⊥) (λ x y. Agree set (pick l x) (pick l y) → ⊥) (plan_rows base p) (λ x y hx hy apart agree. apart (agree_picked l set x y (below (length l) set parts.0) agree)) (unique_holds p f.2 (listed_at l set) parts.1))
  unique_holds (filtered g l p) f set h = later_filter (λ x y. Agree set x y → ⊥) _ (plan_rows base p) (unique_holds p f.1 set h)
  unique_holds (inner_join a b p q) f set h =
      let more = set ++ paired_with (width p) a b set in
      let rows : UniqueOn more (flat_map (λ v. joined a b v (plan_rows base q)) (plan_rows base p)) = elim (true_case (unique S p (lefts (width p) more)) (unique S q b) (unique S q (rights (width p) more)) (unique S p a) h) [
        | inl k ↦ inner_unique (width p) a b more (plan_rows base p) (plan_rows base q) (wide p f.2) (inl (unique_holds p f.2 (lefts (width p) more) k.0, unique_holds q f.3 b k.1))
        | inr k ↦ elim k [
          | inl j ↦ inner_unique (width p) a b more (plan_rows base p) (plan_rows base q) (wide p f.2) (inr (inl (unique_holds q f.3 (rights (width p) more) j.0, unique_holds p f.2 a j.1)))
          | inr j ↦ inner_unique (width p) a b more (plan_rows base p) (plan_rows base q) (wide p f.2) (inr (inr (unique_holds p f.2 (lefts (width p) more) j.0, unique_holds q f.3 (rights (width p) more) j.1)))
        ]
      ] in
      later_implies (λ x y. Agree more x y → ⊥) (λ x y. Agree set x y → ⊥) (flat_map (λ v. joined a b v (plan_rows base q)) (plan_rows base p))
      (λ x y hx hy apart agree. apart (each_append _ set (paired_with (width p) a b set) agree (agree_added a b p q f set x y hx hy agree))) rows
    where
      agree_added : (a b : List ℕ) (p q : PlanTree) → Fits S (inner_join a b p q) → (set : List ℕ) (x y : Tuple) → Has x (flat_map (λ v. joined a b v (plan_rows base q)) (plan_rows base p)) → Has y (flat_map (λ v. joined a b v (plan_rows base q)) (plan_rows base p)) →
          Agree set x y → Agree (paired_with (width p) a b set) x y
      agree_added a b p q f set x y hx hy agree =
          let one = has_from_flat_map x (λ v. joined a b v (plan_rows base q)) (plan_rows base p) hx in
          let two = has_from_flat_map y (λ v. joined a b v (plan_rows base q)) (plan_rows base p) hy in
          let r = pair_of a b one.0 x (plan_rows base q) one.2 in
          let s = pair_of a b two.0 y (plan_rows base q) two.2 in
          let e = each_has (λ v. length v ≡ width p) one.0 (plan_rows base p) (wide p f.2) one.1 in
          let e' = each_has (λ v. length v ≡ width p) two.0 (plan_rows base p) (wide p f.2) two.1 in
          subst (λ z. Agree (paired_with (width p) a b set) z y) (sym r.3)
          (subst (λ z. Agree (paired_with (width p) a b set) (one.0 ++ r.0) z) (sym s.3)
          (agree_paired (width p) a b set one.0 r.0 two.0 s.0 e e' f.0 ((row_matches-Decides (pick a one.0) (pick b r.0)).0 r.2).0 ((row_matches-Decides (pick a two.0) (pick b s.0)).0 s.2).0
          (subst (λ z. Agree set z (two.0 ++ s.0)) r.3 (subst (λ z. Agree set x z) s.3 agree))))
  unique_holds (left_join a b p q) f set h = elim (true_case (unique S p (lefts (width p) set)) (unique S q b) (unique S q (rights (width p) set)) (unique S p a) h) [
    | inl k ↦ left_unique (width p) a b set (plan_rows base p) (plan_rows base q) (wide p f.2) (width q) (inl (unique_holds p f.2 (lefts (width p) set) k.0, unique_holds q f.3 b k.1))
    | inr k ↦ elim k [
      | inl j ↦ left_unique (width p) a b set (plan_rows base p) (plan_rows base q) (wide p f.2) (width q) (inr (inl ((unique_holds q f.3 (rights (width p) set) j.0, not_none q f.3 (rights (width p) set) j.0), unique_holds p f.2 a j.1)))
      | inr j ↦ left_unique (width p) a b set (plan_rows base p) (plan_rows base q) (wide p f.2) (width q) (inr (inr (unique_holds p f.2 (lefts (width p) set) j.0, unique_holds q f.3 (rights (width p) set) j.1)))
    ]
  ]
  unique_holds (in_sub a p q) f set h = later_filter (λ x y. Agree set x y → ⊥) _ (plan_rows base p) (unique_holds p f.1 set h)
  unique_holds (dedup p) f set h = elim (or_parts (unique S p set) (is_whole (width p) set) h) [
    | inl k ↦ distinct_later (λ x y. Agree set x y → ⊥) (plan_rows base p) (unique_holds p f set k)
    | inr k ↦ later_implies (λ x y. x ≢ y) (λ x y. Agree set x y → ⊥) (distinct row_same (plan_rows base p))
        (λ x y hx hy differ agree.
        let ex = each_has (λ row. length row ≡ width p) x (distinct row_same (plan_rows base p)) (wide (dedup p) f) hx in
        let ey = each_has (λ row. length row ≡ width p) y (distinct row_same (plan_rows base p)) (wide (dedup p) f) hy in
        differ (same_row x y (ex ∙ sym ey) (λ c lt. agree_whole (width p) set x y k agree c (omega (arith, lt, ex))))) (distinct_differ (plan_rows base p))
  ]
