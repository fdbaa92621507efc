-- Sums over the rows of joins and conditions, and a list of conditions split between the operands of a join.
use Rattle.std.proofs.Common.{◌≡◌, ℕ, ◌+◌, ◌-◌, ◌<◌, ◌≤◌, nat_lt, Bool, true, false, ◌&&◌, not, cond, List, [], ◌∷◌, ◌++◌, map, length, filter, refl, ap, ◌∙◌, arith}
use Rattle.std.specs.Prelude.{flat_map}
use Rattle.std.specs.List.{list_any, list_all}
use Rattle.std.proofs.lemmas.Bool.{ltb-true, ltb-false}
use Rattle.wt_bag.specs.Bags.{total, only, SameSums, Each}
use Rattle.wt_bag.proofs.TotalLaws.{total-flat_map, total-filter, total_ext}
use Rattle.wt_value.specs.Values.{Tuple, row_matches, value_at, pick}
use Rattle.wt_plan.specs.Rows.{is_true, plan_rows, null_row, joined, or_nulls}
use Rattle.wt_plan.specs.Tree.{PlanTree}
use Rattle.wt_plan.specs.Measures.{width}
use Rattle.wt_place.specs.Placing.{Condition, test, member, over, moved, put, stand, in_left, in_right, in_both}
use Rattle.wt_plan.proofs.Together.{filter_filter, value_left, value_right, pick_left, pick_high, pick_right, filter_true}
use Rattle.wt_plan.proofs.JoinTotals.{lone, or_nulls_sum, mapped_filter}
use Rattle.wt_pred.specs.Meaning.{truth}

abbrev pub true_at : List (List Tuple) → Condition → Tuple → Bool
true_at base (test q cols) row = is_true (truth q (pick cols row))
true_at base (member cols r) row = list_any (λ y. row_matches (pick cols row) y) (plan_rows base r)

abbrev pub all_true : List (List Tuple) → List Condition → Tuple → Bool
all_true base [] row = true
all_true base (c ∷ cs) row = true_at base c row && all_true base cs row

and_and : (a b c : Bool) → (a && (b && c)) ≡ ((a && b) && c)
and_and true b c = refl
and_and false b c = refl

pub all_true_append : (base : List (List Tuple)) (cs ds : List Condition) (row : Tuple) → all_true base (cs ++ ds) row ≡ all_true base cs row && all_true base ds row
all_true_append base [] ds row = refl
all_true_append base (c ∷ cs) ds row = ap (λ b. true_at base c row && b) (all_true_append base cs ds row) ∙ and_and (true_at base c row) (all_true base cs row) (all_true base ds row)

put_rows : (base : List (List Tuple)) (c : Condition) (p : PlanTree) → plan_rows base (put c p) ≡ filter (true_at base c) (plan_rows base p)
put_rows base (test q cols) p = refl
put_rows base (member cols r) p = refl

pub stand_rows : (base : List (List Tuple)) (cs : List Condition) (p : PlanTree) → plan_rows base (stand cs p) ≡ filter (all_true base cs) (plan_rows base p)
stand_rows base [] p = filter_true (plan_rows base p)
stand_rows base (c ∷ cs) p = stand_rows base cs (put c p) ∙ ap (filter (all_true base cs)) (put_rows base c p) ∙ filter_filter (true_at base c) (all_true base cs) (plan_rows base p)

pub stand_sum : (base : List (List Tuple)) (cs : List Condition) (p : PlanTree) (g : Tuple → ℕ) → total g (plan_rows base (stand cs p)) ≡ total (λ w. only (all_true base cs w) (g w)) (plan_rows base p)
stand_sum base cs p g = ap (total g) (stand_rows base cs p) ∙ total-filter g (all_true base cs) (plan_rows base p)

pub width_stand : (cs : List Condition) (p : PlanTree) → width (stand cs p) ≡ width p
width_stand [] p = refl
width_stand (c ∷ cs) p = width_stand cs (put c p) ∙ width_put c p
  where
    width_put : (c : Condition) (p : PlanTree) → width (put c p) ≡ width p
    width_put (test q cols) p = refl
    width_put (member cols r) p = refl

-- sums over joins
module _ (a b : List ℕ) where
  abbrev pub meet : Tuple → Tuple → Bool
  meet u v = row_matches (pick a u) (pick b v)

  joined_sum : (g : Tuple → ℕ) (u : Tuple) (vs : List Tuple) → total g (joined a b u vs) ≡ total (λ v. only (meet u v) (g (u ++ v))) vs
  joined_sum g u vs = mapped_filter g (λ v. u ++ v) (meet u) vs

  abbrev pub partners : (Tuple → ℕ) → List Tuple → Tuple → ℕ
  partners g vs u = total (λ v. only (meet u v) (g (u ++ v))) vs

  abbrev pub kept : (Tuple → ℕ) → ℕ → List Tuple → Tuple → ℕ
  kept g n vs u = partners g vs u + lone (partners (λ _. 1) vs u) (g (u ++ null_row n))

  pub inner_sum : (g : Tuple → ℕ) (us vs : List Tuple) → total g (flat_map (λ u. joined a b u vs) us) ≡ total (partners g vs) us
  inner_sum g us vs = total-flat_map g (λ u. joined a b u vs) us ∙ total_ext (λ u. total g (joined a b u vs)) (partners g vs) us (λ u. joined_sum g u vs)

  pub left_sum : (g : Tuple → ℕ) (n : ℕ) (us vs : List Tuple) → total g (flat_map (λ u. or_nulls (u ++ null_row n) (joined a b u vs)) us) ≡ total (kept g n vs) us
  left_sum g n us vs = total-flat_map g (λ u. or_nulls (u ++ null_row n) (joined a b u vs)) us
      ∙ total_ext (λ u. total g (or_nulls (u ++ null_row n) (joined a b u vs))) (kept g n vs) us
      (λ u. or_nulls_sum g (u ++ null_row n) (joined a b u vs) ∙ (λ i. joined_sum g u vs i + lone (joined_sum (λ _. 1) u vs i) (g (u ++ null_row n))))

  -- the same right rows
  pub kept_same : (g : Tuple → ℕ) (n : ℕ) (vs ws : List Tuple) → SameSums vs ws → (u : Tuple) → kept g n vs u ≡ kept g n ws u
  kept_same g n vs ws h u = λ i. h.sums (λ v. only (meet u v) (g (u ++ v))) i + lone (h.sums (λ v. only (meet u v) 1) i) (g (u ++ null_row n))

-- conditions on the columns of one operand
module _ (base : List (List Tuple)) (u v : Tuple) where
  low_columns : (cols : List ℕ) → list_all (λ k. nat_lt k (length u)) cols ≡ true → Each (λ k. k < length u) cols
  low_columns [] e = tt
  low_columns (k ∷ cols) e = here (nat_lt k (length u)) refl e (low_columns cols)
    where
      here : (b : Bool) → nat_lt k (length u) ≡ b → (b && list_all (λ j. nat_lt j (length u)) cols) ≡ true → (list_all (λ j. nat_lt j (length u)) cols ≡ true → Each (λ j. j < length u) cols) → (k < length u) × Each (λ j. j < length u) cols
      here true f e more = (ltb-true k (length u) f, more e)
      here false f e more = cc

  high_columns : (cols : List ℕ) → list_all (λ k. not (nat_lt k (length u))) cols ≡ true → Each (λ k. length u ≤ k) cols
  high_columns [] e = tt
  high_columns (k ∷ cols) e = here (nat_lt k (length u)) refl e (high_columns cols)
    where
      here : (b : Bool) → nat_lt k (length u) ≡ b → (not b && list_all (λ j. not (nat_lt j (length u))) cols) ≡ true → (list_all (λ j. not (nat_lt j (length u))) cols ≡ true → Each (λ j. length u ≤ j) cols) → (length u ≤ k) × Each (λ j. length u ≤ j) cols
      here false f e more = (ltb-false k (length u) f, more e)
      here true f e more = cc

  pub true_low : (c : Condition) → Each (λ k. k < length u) (over c) → true_at base c (u ++ v) ≡ true_at base c u
  true_low (test q cols) h = ap (λ r. is_true (truth q r)) (pick_left cols u v h)
  true_low (member cols r) h = ap (λ z. list_any (λ y. row_matches z y) (plan_rows base r)) (pick_left cols u v h)

  pub true_up : (c : Condition) → true_at base (moved (λ k. length u + k) c) (u ++ v) ≡ true_at base c v
  true_up (test q cols) = ap (λ r. is_true (truth q r)) (pick_right cols u v)
  true_up (member cols r) = ap (λ z. list_any (λ y. row_matches z y) (plan_rows base r)) (pick_right cols u v)

  true_high : (c : Condition) → Each (λ k. length u ≤ k) (over c) → true_at base c (u ++ v) ≡ true_at base (moved (λ k. k - length u) c) v
  true_high (test q cols) h = ap (λ r. is_true (truth q r)) (pick_high cols u v h)
  true_high (member cols r) h = ap (λ z. list_any (λ y. row_matches z y) (plan_rows base r)) (pick_high cols u v h)

  -- all conditions of a list, by the operands on which they are
  pub split : (cs : List Condition) → all_true base cs (u ++ v)
      ≡ all_true base (filter (in_left (length u)) cs) u && (all_true base (map (moved (λ k. k - length u)) (filter (in_right (length u)) cs)) v && all_true base (filter (in_both (length u)) cs) (u ++ v))
  split [] = refl
  split (c ∷ cs) = here (in_left (length u) c) (list_all (λ k. not (nat_lt k (length u))) (over c)) refl refl (split cs)
    where
      second : (t l r b : Bool) → (t && (l && (r && b))) ≡ (l && ((t && r) && b))
      second true l r b = refl
      second false true r b = refl
      second false false r b = refl

      third : (t l r b : Bool) → (t && (l && (r && b))) ≡ (l && (r && (t && b)))
      third true l r b = refl
      third false true true b = refl
      third false true false b = refl
      third false false r b = refl

      here : (s t : Bool) → in_left (length u) c ≡ s → list_all (λ k. not (nat_lt k (length u))) (over c) ≡ t
          → all_true base cs (u ++ v) ≡ all_true base (filter (in_left (length u)) cs) u && (all_true base (map (moved (λ k. k - length u)) (filter (in_right (length u)) cs)) v && all_true base (filter (in_both (length u)) cs) (u ++ v))
          → (true_at base c (u ++ v) && all_true base cs (u ++ v)) ≡ all_true base (cond s (c ∷ (filter (in_left (length u)) cs)) (filter (in_left (length u)) cs)) u
          && (all_true base (map (moved (λ k. k - length u)) (cond (not s && t) (c ∷ (filter (in_right (length u)) cs)) (filter (in_right (length u)) cs))) v && all_true base (cond (not s && not t) (c ∷ (filter (in_both (length u)) cs)) (filter (in_both (length u)) cs)) (u ++ v))
      here true t l r ih = (λ i. true_low c (low_columns (over c) l) i && ih i) ∙ and_and (true_at base c u) (all_true base (filter (in_left (length u)) cs) u) (all_true base (map (moved (λ k. k - length u)) (filter (in_right (length u)) cs)) v && all_true base (filter (in_both (length u)) cs) (u ++ v))
      here false true l r ih = (λ i. true_high c (high_columns (over c) r) i && ih i) ∙ second (true_at base (moved (λ k. k - length u) c) v) (all_true base (filter (in_left (length u)) cs) u) (all_true base (map (moved (λ k. k - length u)) (filter (in_right (length u)) cs)) v) (all_true base (filter (in_both (length u)) cs) (u ++ v))
      here false false l r ih = ap (λ b. true_at base c (u ++ v) && b) ih ∙ third (true_at base c (u ++ v)) (all_true base (filter (in_left (length u)) cs) u) (all_true base (map (moved (λ k. k - length u)) (filter (in_right (length u)) cs)) v) (all_true base (filter (in_both (length u)) cs) (u ++ v))

  -- on the left operand, or not
  pub split_left : (cs : List Condition) → all_true base cs (u ++ v) ≡ all_true base (filter (in_left (length u)) cs) u && all_true base (filter (λ c. not (in_left (length u) c)) cs) (u ++ v)
  split_left [] = refl
  split_left (c ∷ cs) = here (in_left (length u) c) refl (split_left cs)
    where
      swap : (t l b : Bool) → (t && (l && b)) ≡ (l && (t && b))
      swap true l b = refl
      swap false true b = refl
      swap false false b = refl

      here : (s : Bool) → in_left (length u) c ≡ s → all_true base cs (u ++ v) ≡ all_true base (filter (in_left (length u)) cs) u && all_true base (filter (λ d. not (in_left (length u) d)) cs) (u ++ v)
          → (true_at base c (u ++ v) && all_true base cs (u ++ v)) ≡ all_true base (cond s (c ∷ (filter (in_left (length u)) cs)) (filter (in_left (length u)) cs)) u && all_true base (cond (not s) (c ∷ (filter (λ d. not (in_left (length u) d)) cs)) (filter (λ d. not (in_left (length u) d)) cs)) (u ++ v)
      here true l ih = (λ i. true_low c (low_columns (over c) l) i && ih i) ∙ and_and (true_at base c u) (all_true base (filter (in_left (length u)) cs) u) (all_true base (filter (λ d. not (in_left (length u) d)) cs) (u ++ v))
      here false l ih = ap (λ b. true_at base c (u ++ v) && b) ih ∙ swap (true_at base c (u ++ v)) (all_true base (filter (in_left (length u)) cs) u) (all_true base (filter (λ d. not (in_left (length u) d)) cs) (u ++ v))
