-- Placing keeps the rows as one bag.
use Rattle.std.proofs.Common.{◌≡◌, ℕ, zero, suc, ◌+◌, ◌-◌, ◌<◌, Bool, true, false, ◌&&◌, not, List, [], ◌∷◌, ◌++◌, map, length, length-append, filter, refl, sym, ap, subst, ◌∙◌, arith}
use Rattle.std.specs.List.{list_any}
use Rattle.wt_bag.specs.Bags.{total, only, SameSums, OneBag, Each}
use Rattle.wt_bag.proofs.BagLaws.{same_elements, distinct_same, one_bag}
use Rattle.wt_bag.proofs.EachLaws.{each_implies, each_append, each_map, each_for, each_filter, each_flat_map, each_distinct}
use Rattle.wt_bag.proofs.TotalLaws.{total-map, total-filter, total_ext, total_each, only-and, only-total}
use Rattle.wt_value.specs.Values.{Tuple, row_matches, row_same, pick}
use Rattle.wt_value.proofs.Comparing.{row_same_decides}
use Rattle.wt_schema.specs.Satisfying.{rows_of}
use Rattle.wt_plan.specs.Tree.{PlanTree, table, proj, filtered, inner_join, left_join, in_sub, dedup}
use Rattle.wt_plan.specs.Rows.{plan_rows, null_row, joined, or_nulls}
use Rattle.wt_plan.specs.Measures.{width}
use Rattle.wt_place.specs.Placing.{Condition, test, member, over, moved, stand, in_left, in_right, in_both, settle, conditions, bare, placed}
use Rattle.wt_place.specs.Keeping.{Fits}
use Rattle.wt_plan.proofs.Widths.{Wide, TablesFit, wide}
use Rattle.wt_plan.proofs.JoinTotals.{lone}
use Rattle.wt_place.proofs.PlaceSums.{true_at, all_true, all_true_append, stand_sum, width_stand, meet, partners, kept, inner_sum, left_sum, kept_same, true_low, true_up, split, split_left}

-- two lists of tests at a left and a right row
both_pull : (l r m o : Bool) (n : ℕ) → only l (only r (only m (only o n))) ≡ only m (only (l && (r && o)) n)
both_pull true true m o n = refl
both_pull true false true o n = refl
both_pull true false false o n = refl
both_pull false r true o n = refl
both_pull false r false o n = refl

only_same : (b c : Bool) → b ≡ c → (n : ℕ) → only b n ≡ only c n
only_same b c e n = ap (λ d. only d n) e

-- a test of the left row alone goes through a left join
module _ (a b : List ℕ) (g : Tuple → ℕ) (n : ℕ) (vs : List Tuple) (u : Tuple) where
  lone_zero : (k : ℕ) → 0 ≡ lone k 0
  lone_zero zero = refl
  lone_zero (suc k) = refl

  none : (t : Bool) → 0 ≡ only t 0
  none true = refl
  none false = refl

  nothing : (m : Tuple → Bool) (ws : List Tuple) → 0 ≡ total (λ v. only (m v) 0) ws
  nothing m [] = refl
  nothing m (v ∷ ws) = omega (arith, none (m v), nothing m ws)

  pub kept_both : (whole rest : Tuple → Bool) (t : Bool) → ((v : Tuple) → whole (u ++ v) ≡ t && rest (u ++ v)) → only t (kept a b (λ w. only (rest w) (g w)) n vs u) ≡ kept a b (λ w. only (whole w) (g w)) n vs u
  kept_both whole rest true e =
      λ i. total_ext (λ v. only (meet a b u v) (only (rest (u ++ v)) (g (u ++ v)))) (λ v. only (meet a b u v) (only (whole (u ++ v)) (g (u ++ v)))) vs (λ v. ap (only (meet a b u v)) (only_same _ _ (sym (e v)) (g (u ++ v)))) i
      + lone (partners a b (λ _. 1) vs u) (only_same _ _ (sym (e (null_row n))) (g (u ++ null_row n)) i)
  kept_both whole rest false e =
      let gone : (v : Tuple) → only (whole (u ++ v)) (g (u ++ v)) ≡ 0 = λ v. only_same (whole (u ++ v)) false (e v) (g (u ++ v)) in
      let first : 0 ≡ partners a b (λ w. only (whole w) (g w)) vs u = nothing (meet a b u) vs ∙ sym (total_ext (λ v. only (meet a b u v) (only (whole (u ++ v)) (g (u ++ v)))) (λ v. only (meet a b u v) 0) vs (λ v. ap (only (meet a b u v)) (gone v))) in
      let second : 0 ≡ lone (partners a b (λ _. 1) vs u) (only (whole (u ++ null_row n)) (g (u ++ null_row n))) = lone_zero (partners a b (λ _. 1) vs u) ∙ ap (lone (partners a b (λ _. 1) vs u)) (sym (gone (null_row n))) in
      omega (arith, first, second)

  pub kept_only : (whole : Tuple → Bool) (t : Bool) → ((v : Tuple) → whole (u ++ v) ≡ t) → only t (kept a b g n vs u) ≡ kept a b (λ w. only (whole w) (g w)) n vs u
  kept_only whole t e = kept_both whole (λ _. true) t (λ v. e v ∙ sym (and_nothing t))
    where
      and_nothing : (b : Bool) → (b && true) ≡ b
      and_nothing true = refl
      and_nothing false = refl

-- widths
pub width_settle : (cs : List Condition) (p : PlanTree) → width (settle cs p) ≡ width p
width_settle cs (table n w) = width_stand cs (table n w)
width_settle cs (proj cols p) = width_stand cs (proj cols p)
width_settle cs (dedup p) = width_stand cs (dedup p)
width_settle cs (filtered q cols p) = width_stand cs (filtered q cols p)
width_settle cs (in_sub cols l r) = width_stand cs (in_sub cols l r)
width_settle cs (inner_join a b l r) =
    let ls = filter (in_left (width l)) cs in
    let rs = map (moved (λ k. k - width l)) (filter (in_right (width l)) cs) in
    width_stand (filter (in_both (width l)) cs) (inner_join a b (settle ls l) (settle rs r)) ∙ (λ i. width_settle ls l i + width_settle rs r i)
width_settle cs (left_join a b l r) =
    let ls = filter (in_left (width l)) cs in
    width_stand (filter (λ c. not (in_left (width l) c)) cs) (left_join a b (settle ls l) r) ∙ ap (λ n. n + width r) (width_settle ls l)

pub width_bare : (p : PlanTree) → width (bare p) ≡ width p
width_bare (table n w) = refl
width_bare (proj cols p) = refl
width_bare (dedup p) = width_settle (conditions p) (bare p) ∙ width_bare p
width_bare (filtered q cols p) = width_bare p
width_bare (in_sub cols l r) = width_bare l
width_bare (inner_join a b l r) = λ i. width_bare l i + width_bare r i
width_bare (left_join a b l r) = λ i. width_bare l i + (width_settle (conditions r) (bare r) ∙ width_bare r) i

module _ (base : List (List Tuple)) where
  fit_stand : (cs : List Condition) (p : PlanTree) → TablesFit base p → TablesFit base (stand cs p)
  fit_stand [] p h = h
  fit_stand (test q cols ∷ cs) p h = fit_stand cs (filtered q cols p) h
  fit_stand (member cols r ∷ cs) p h = fit_stand cs (in_sub cols p r) h

  fit_settle : (cs : List Condition) (p : PlanTree) → TablesFit base p → TablesFit base (settle cs p)
  fit_settle cs (table n w) h = fit_stand cs (table n w) h
  fit_settle cs (proj cols p) h = fit_stand cs (proj cols p) h
  fit_settle cs (dedup p) h = fit_stand cs (dedup p) h
  fit_settle cs (filtered q cols p) h = fit_stand cs (filtered q cols p) h
  fit_settle cs (in_sub cols l r) h = fit_stand cs (in_sub cols l r) h
  fit_settle cs (inner_join a b l r) h =
      let ls = filter (in_left (width l)) cs in
      let rs = map (moved (λ k. k - width l)) (filter (in_right (width l)) cs) in
      fit_stand (filter (in_both (width l)) cs) (inner_join a b (settle ls l) (settle rs r)) (fit_settle ls l h.0, fit_settle rs r h.1)
  fit_settle cs (left_join a b l r) h =
      let ls = filter (in_left (width l)) cs in
      fit_stand (filter (λ c. not (in_left (width l) c)) cs) (left_join a b (settle ls l) r) (fit_settle ls l h.0, h.1)

  fit_bare : (p : PlanTree) → TablesFit base p → TablesFit base (bare p)
  fit_bare (table n w) h = h
  fit_bare (proj cols p) h = tt
  fit_bare (dedup p) h = fit_settle (conditions p) (bare p) (fit_bare p h)
  fit_bare (filtered q cols p) h = fit_bare p h
  fit_bare (in_sub cols l r) h = fit_bare l h
  fit_bare (inner_join a b l r) h = (fit_bare l h.0, fit_bare r h.1)
  fit_bare (left_join a b l r) h = (fit_bare l h.0, fit_settle (conditions r) (bare r) (fit_bare r h.1))

  fit_tables : (p : PlanTree) → Fits base p → TablesFit base p
  fit_tables (table n w) h = h
  fit_tables (proj cols p) h = tt
  fit_tables (dedup p) h = fit_tables p h
  fit_tables (filtered q cols p) h = fit_tables p h.1
  fit_tables (in_sub cols l r) h = fit_tables l h.1
  fit_tables (inner_join a b l r) h = (fit_tables l h.0, fit_tables r h.1)
  fit_tables (left_join a b l r) h = (fit_tables l h.0, fit_tables r h.1)

  -- conditions that are settled are those that are all true
  pub settle_sum : (cs : List Condition) (p : PlanTree) → TablesFit base p → (g : Tuple → ℕ) → total g (plan_rows base (settle cs p)) ≡ total (λ w. only (all_true base cs w) (g w)) (plan_rows base p)
  settle_sum cs (table n w) h g = stand_sum base cs (table n w) g
  settle_sum cs (proj cols p) h g = stand_sum base cs (proj cols p) g
  settle_sum cs (dedup p) h g = stand_sum base cs (dedup p) g
  settle_sum cs (filtered q cols p) h g = stand_sum base cs (filtered q cols p) g
  settle_sum cs (in_sub cols l r) h g = stand_sum base cs (in_sub cols l r) g
  settle_sum cs (inner_join a b l r) h g =
      let n = width l in
      let ls = filter (in_left n) cs in
      let rs = map (moved (λ k. k - n)) (filter (in_right n) cs) in
      let bs = filter (in_both n) cs in
      let G : Tuple → ℕ = λ w. only (all_true base bs w) (g w) in
      stand_sum base bs (inner_join a b (settle ls l) (settle rs r)) g
      ∙ inner_sum a b G (plan_rows base (settle ls l)) (plan_rows base (settle rs r))
      ∙ settle_sum ls l h.0 (partners a b G (plan_rows base (settle rs r)))
      ∙ total_each _ _ (plan_rows base l) (each_implies (λ u. length u ≡ n)
      (λ u. only (all_true base ls u) (partners a b G (plan_rows base (settle rs r)) u) ≡ partners a b (λ w. only (all_true base cs w) (g w)) (plan_rows base r) u) (plan_rows base l)
      (λ u e. ap (only (all_true base ls u)) (settle_sum rs r h.1 (λ v. only (meet a b u v) (G (u ++ v))))
      ∙ only-total (all_true base ls u) (λ v. only (all_true base rs v) (only (meet a b u v) (G (u ++ v)))) (plan_rows base r)
      ∙ total_ext (λ v. only (all_true base ls u) (only (all_true base rs v) (only (meet a b u v) (G (u ++ v))))) (λ v. only (meet a b u v) (only (all_true base cs (u ++ v)) (g (u ++ v)))) (plan_rows base r)
      (λ v. both_pull (all_true base ls u) (all_true base rs v) (meet a b u v) (all_true base bs (u ++ v)) (g (u ++ v))
      ∙ ap (only (meet a b u v)) (only_same _ _ (sym (subst (λ m. all_true base cs (u ++ v) ≡ all_true base (filter (in_left m) cs) u && (all_true base (map (moved (λ k. k - m)) (filter (in_right m) cs)) v && all_true base (filter (in_both m) cs) (u ++ v))) e (split base u v cs))) (g (u ++ v))))) (wide base l h.0))
      ∙ sym (inner_sum a b (λ w. only (all_true base cs w) (g w)) (plan_rows base l) (plan_rows base r))
  settle_sum cs (left_join a b l r) h g =
      let n = width l in
      let ls = filter (in_left n) cs in
      let bs = filter (λ c. not (in_left n c)) cs in
      let G : Tuple → ℕ = λ w. only (all_true base bs w) (g w) in
      let H : Tuple → ℕ = λ w. only (all_true base cs w) (g w) in
      stand_sum base bs (left_join a b (settle ls l) r) g
      ∙ left_sum a b G (width r) (plan_rows base (settle ls l)) (plan_rows base r)
      ∙ settle_sum ls l h.0 (kept a b G (width r) (plan_rows base r))
      ∙ total_each _ _ (plan_rows base l) (each_implies (λ u. length u ≡ n) (λ u. only (all_true base ls u) (kept a b G (width r) (plan_rows base r) u) ≡ kept a b H (width r) (plan_rows base r) u) (plan_rows base l)
      (λ u e. kept_both a b g (width r) (plan_rows base r) u (all_true base cs) (all_true base bs) (all_true base ls u) (λ v. subst (λ m. all_true base cs (u ++ v) ≡ all_true base (filter (in_left m) cs) u && all_true base (filter (λ c. not (in_left m c)) cs) (u ++ v)) e (split_left base u v cs))) (wide base l h.0))
      ∙ sym (left_sum a b H (width r) (plan_rows base l) (plan_rows base r))

  -- the conditions of a zone are on its columns
  inside : (p : PlanTree) → Fits base p → Each (λ c. Each (λ k. k < width p) (over c)) (conditions p)
  inside (table n w) h = tt
  inside (proj cols p) h = tt
  inside (dedup p) h = tt
  inside (filtered q cols p) h = each_append (λ c. Each (λ k. k < width p) (over c)) (conditions p) (test q cols ∷ []) (inside p h.1) (h.0, tt)
  inside (in_sub cols l r) h = each_append (λ c. Each (λ k. k < width l) (over c)) (conditions l) (member cols (settle (conditions r) (bare r)) ∷ []) (inside l h.1) (h.0, tt)
  inside (inner_join a b l r) h = each_append (λ c. Each (λ k. k < width l + width r) (over c)) (conditions l) (map (moved (λ k. width l + k)) (conditions r))
      (each_implies (λ c. Each (λ k. k < width l) (over c)) (λ c. Each (λ k. k < width l + width r) (over c)) (conditions l) (λ c i. each_implies (λ k. k < width l) (λ k. k < width l + width r) (over c) (λ k f. omega arith) i) (inside l h.0))
      (each_map (λ c. Each (λ k. k < width l + width r) (over c)) (moved (λ k. width l + k)) (conditions r)
      (each_implies (λ c. Each (λ k. k < width r) (over c)) (λ c. Each (λ k. k < width l + width r) (over (moved (λ k. width l + k) c))) (conditions r) (λ c i. raised c i) (inside r h.1)))
    where
      raised : (c : Condition) → Each (λ k. k < width r) (over c) → Each (λ k. k < width l + width r) (over (moved (λ k. width l + k) c))
      raised (test q cols) i = each_map (λ k. k < width l + width r) (λ k. width l + k) cols (each_implies (λ k. k < width r) (λ k. width l + k < width l + width r) cols (λ k f. omega arith) i)
      raised (member cols s) i = each_map (λ k. k < width l + width r) (λ k. width l + k) cols (each_implies (λ k. k < width r) (λ k. width l + k < width l + width r) cols (λ k f. omega arith) i)
  inside (left_join a b l r) h =
      each_implies (λ c. Each (λ k. k < width l) (over c)) (λ c. Each (λ k. k < width l + width r) (over c)) (conditions l) (λ c i. each_implies (λ k. k < width l) (λ k. k < width l + width r) (over c) (λ k f. omega arith) i) (inside l h.0)

  -- conditions on the left columns alone, and those of the right operand
  all_low : (u v : Tuple) (n : ℕ) → length u ≡ n → (cs : List Condition) → Each (λ c. Each (λ k. k < n) (over c)) cs → all_true base cs (u ++ v) ≡ all_true base cs u
  all_low u v n e [] h = refl
  all_low u v n e (c ∷ cs) h = λ i. true_low base u v c (subst (λ m. Each (λ k. k < m) (over c)) (sym e) h.0) i && all_low u v n e cs h.1 i

  all_up : (u v : Tuple) (n : ℕ) → length u ≡ n → (cs : List Condition) → all_true base (map (moved (λ k. n + k)) cs) (u ++ v) ≡ all_true base cs v
  all_up u v n e [] = refl
  all_up u v n e (c ∷ cs) = λ i. (ap (λ m. true_at base (moved (λ k. m + k) c) (u ++ v)) (sym e) ∙ true_up base u v c) i && all_up u v n e cs i

  only_pull : (l r m : Bool) (n : ℕ) → only l (only r (only m n)) ≡ only m (only (l && r) n)
  only_pull true true m n = refl
  only_pull true false true n = refl
  only_pull true false false n = refl
  only_pull false r true n = refl
  only_pull false r false n = refl

  abbrev Same : PlanTree → Type 0
  Same p = SameSums (plan_rows base p) (plan_rows base (placed p))

  member_same : (cols : List ℕ) (r s : PlanTree) → SameSums (plan_rows base r) (plan_rows base s) → (row : Tuple) → list_any (λ y. row_matches (pick cols row) y) (plan_rows base r) ≡ list_any (λ y. row_matches (pick cols row) y) (plan_rows base s)
  member_same cols r s h row = (same_elements (plan_rows base r) (plan_rows base s) h).tests (λ y. row_matches (pick cols row) y)

  one_more : (cs : List Condition) (c : Condition) (row : Tuple) (n : ℕ) → only (all_true base cs row) (only (true_at base c row) n) ≡ only (all_true base (cs ++ (c ∷ [])) row) n
  one_more cs c row n = sym (only-and (all_true base cs row) (true_at base c row) n) ∙ only_same _ _ (sym (all_true_append base cs (c ∷ []) row ∙ ap (λ b. all_true base cs row && b) (and_nothing (true_at base c row)))) n
    where
      and_nothing : (b : Bool) → (b && true) ≡ b
      and_nothing true = refl
      and_nothing false = refl

  settled_same : (p : PlanTree) → Fits base p → ((g : Tuple → ℕ) → total g (plan_rows base p) ≡ total (λ w. only (all_true base (conditions p) w) (g w)) (plan_rows base (bare p))) → Same p
  settled_same p h k = record { sums = λ g. k g ∙ sym (settle_sum (conditions p) (bare p) (fit_bare p (fit_tables p h)) g) }

  -- the rows of a zone are those of its joins at which all its conditions are true
  bare_sum : (p : PlanTree) → Fits base p → (g : Tuple → ℕ) → total g (plan_rows base p) ≡ total (λ w. only (all_true base (conditions p) w) (g w)) (plan_rows base (bare p))
  bare_sum (table n w) h g = refl
  bare_sum (proj cols p) h g = total-map g (pick cols) (plan_rows base p) ∙ (settled_same p h (bare_sum p h)).sums (λ v. g (pick cols v)) ∙ sym (total-map g (pick cols) (plan_rows base (placed p)))
  bare_sum (dedup p) h g = (distinct_same row_same row_same_decides (plan_rows base p) (plan_rows base (placed p)) (same_elements (plan_rows base p) (plan_rows base (placed p)) (settled_same p h (bare_sum p h)))).sums g
  bare_sum (filtered q cols p) h g =
      total-filter g (true_at base (test q cols)) (plan_rows base p)
      ∙ bare_sum p h.1 (λ w. only (true_at base (test q cols) w) (g w))
      ∙ total_ext _ _ (plan_rows base (bare p)) (λ w. one_more (conditions p) (test q cols) w (g w))
  bare_sum (in_sub cols l r) h g =
      total-filter g (true_at base (member cols r)) (plan_rows base l)
      ∙ bare_sum l h.1 (λ w. only (true_at base (member cols r) w) (g w))
      ∙ total_ext _ _ (plan_rows base (bare l)) (λ w. ap (only (all_true base (conditions l) w)) (only_same _ _ (member_same cols r (placed r) (settled_same r h.2 (bare_sum r h.2)) w) (g w)) ∙ one_more (conditions l) (member cols (placed r)) w (g w))
  bare_sum (inner_join a b l r) h g =
      let cl = conditions l in
      let cr = conditions r in
      let n : width (bare l) ≡ width l = width_bare l in
      inner_sum a b g (plan_rows base l) (plan_rows base r)
      ∙ bare_sum l h.0 (partners a b g (plan_rows base r))
      ∙ total_each _ _ (plan_rows base (bare l)) (each_implies (λ u. length u ≡ width (bare l))
      (λ u. only (all_true base cl u) (partners a b g (plan_rows base r) u) ≡ partners a b (λ w. only (all_true base (conditions (inner_join a b l r)) w) (g w)) (plan_rows base (bare r)) u) (plan_rows base (bare l))
      (λ u e. ap (only (all_true base cl u)) (bare_sum r h.1 (λ v. only (meet a b u v) (g (u ++ v))))
      ∙ only-total (all_true base cl u) (λ v. only (all_true base cr v) (only (meet a b u v) (g (u ++ v)))) (plan_rows base (bare r))
      ∙ total_ext (λ v. only (all_true base cl u) (only (all_true base cr v) (only (meet a b u v) (g (u ++ v))))) (λ v. only (meet a b u v) (only (all_true base (conditions (inner_join a b l r)) (u ++ v)) (g (u ++ v)))) (plan_rows base (bare r))
      (λ v. only_pull (all_true base cl u) (all_true base cr v) (meet a b u v) (g (u ++ v))
      ∙ ap (only (meet a b u v)) (only_same _ _ (sym (all_true_append base cl (map (moved (λ k. width l + k)) cr) (u ++ v)
      ∙ (λ i. all_low u v (width l) (e ∙ n) cl (inside l h.0) i && all_up u v (width l) (e ∙ n) cr i))) (g (u ++ v))))) (wide base (bare l) (fit_bare l (fit_tables l h.0))))
      ∙ sym (inner_sum a b (λ w. only (all_true base (conditions (inner_join a b l r)) w) (g w)) (plan_rows base (bare l)) (plan_rows base (bare r)))
  bare_sum (left_join a b l r) h g =
      let cl = conditions l in
      let n : width (bare l) ≡ width l = width_bare l in
      let H : Tuple → ℕ = λ w. only (all_true base cl w) (g w) in
      left_sum a b g (width r) (plan_rows base l) (plan_rows base r)
      ∙ bare_sum l h.0 (kept a b g (width r) (plan_rows base r))
      ∙ total_each _ _ (plan_rows base (bare l)) (each_implies (λ u. length u ≡ width (bare l))
      (λ u. only (all_true base cl u) (kept a b g (width r) (plan_rows base r) u) ≡ kept a b H (width (placed r)) (plan_rows base (placed r)) u) (plan_rows base (bare l))
      (λ u e. ap (only (all_true base cl u)) (kept_same a b g (width r) (plan_rows base r) (plan_rows base (placed r)) (settled_same r h.1 (bare_sum r h.1)) u
      ∙ ap (λ k. kept a b g k (plan_rows base (placed r)) u) (sym (width_settle (conditions r) (bare r) ∙ width_bare r)))
      ∙ kept_only a b g (width (placed r)) (plan_rows base (placed r)) u (all_true base cl) (all_true base cl u) (λ v. all_low u v (width l) (e ∙ n) cl (inside l h.0))) (wide base (bare l) (fit_bare l (fit_tables l h.0))))
      ∙ sym (left_sum a b H (width (placed r)) (plan_rows base (bare l)) (plan_rows base (placed r)))

  pub place_same : (p : PlanTree) → Fits base p → Same p
  place_same p h = settled_same p h (bare_sum p h)

  pub place_law : (p : PlanTree) → Fits base p → OneBag row_same (plan_rows base p) (plan_rows base (placed p))
  place_law p h = one_bag row_same (plan_rows base p) (plan_rows base (placed p)) (place_same p h)
