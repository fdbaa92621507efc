-- A join of two operands by the pairs of its conjuncts.
use Rattle.std.proofs.Common.{◌≡◌, ◌≢◌, ℕ, ◌+◌, ◌-◌, ◌<◌, ◌≤◌, nat_lt, Bool, true, false, ◌&&◌, ◌||◌, not, cond, List, [], ◌∷◌, ◌++◌, map, length, length-append, filter, Option, Some, None, is_some, refl, sym, ap, subst, ◌∙◌, arith}
use Rattle.std.specs.List.{list_any}
use Rattle.std.proofs.lemmas.Bool.{ltb-true, ltb-false, false≢true}
use Rattle.wt_bag.specs.Bags.{Each}
use Rattle.wt_bag.specs.Choices.{Apart}
use Rattle.wt_bag.proofs.EachLaws.{each_implies, each_both, each_append, each_map, each_for, each_filter}
use Rattle.wt_pred.specs.declared.tree.Cmp.TheVariants as signs
use Rattle.wt_pred.specs.declared.tree.Operand.TheVariants as operands
use Rattle.wt_pred.specs.Tree as preds
use Rattle.wt_schema.specs.declared.schema.ColKind.{ColKind}
use Rattle.wt_schema.specs.declared.schema.Table.{Table}
use Rattle.wt_plan.specs.Tree.{PlanTree}
use Rattle.wt_plan.specs.Tree as plans
use Rattle.wt_plan.specs.Measures.{width}
use Rattle.wt_plan.specs.WellFormed.{Pairs}
use Rattle.wt_plan.specs.Regular.{kind_at, kinds_at, plan_kinds}
use Rattle.wt_plan.proofs.Upto.{length_map}
use Rattle.wt_place.proofs.Regularity.{apart_map, each_passing, kind_left, kind_right, kinds_left, kinds_up, low_all, kinds_length}
use Rattle.wt_query_plan.specs.Building.{Conjunct, keeps, is_in, conjunct_columns, across, pair_of, pairs_of, others_of, on_right, at_place, stacked, firsts, seconds, inner_of, left_of, right_of, within, link, comma_of}
use Rattle.wt_query_plan.proofs.Lookup.{map_append}
use Rattle.wt_query_plan.proofs.Stacking.{width_stacked}
use Rattle.wt_regular.proofs.Conjuncts.{Good, good_low, good_high, Part, part_kinds, part_below, part_stacked}

-- ---- pairs

-- the one column is on the left, the other on the right, and they are of one kind
abbrev pub Equal : List ColKind → List ColKind → ℕ × ℕ → Type 0
Equal ks ms p = (p.0 < length ks) × (p.1 < length ms) × (kind_at ks p.0 ≡ kind_at ms p.1)

across_equal : (ks ms : List ColKind) (n : ℕ) → length ks ≡ n → (a b : ℕ) → a < length (ks ++ ms) → b < length (ks ++ ms) → kind_at (ks ++ ms) a ≡ kind_at (ks ++ ms) b
    → (p : ℕ × ℕ) → across n a b ≡ Some p → Equal ks ms p
across_equal ks ms n is a b la lb e p = here (nat_lt a n) (nat_lt b n) refl refl
  where
    both : (c d : ℕ) (q : ℕ × ℕ) → nat_lt c n ≡ true → nat_lt d n ≡ false → d < length (ks ++ ms) → kind_at (ks ++ ms) c ≡ kind_at (ks ++ ms) d → Some (c, d - n) ≡ Some q → Equal ks ms q
    both c d q l r m k s =
        let same : (c, d - n) ≡ q = cc in
        let left : c < n = ltb-true c n l in
        let right : n ≤ d = ltb-false d n r in
        let low : c < length ks = omega (arith, left, is) in
        let high : length ks ≤ d = omega (arith, right, is) in
        subst (Equal ks ms) same (
          low,
          omega (arith, right, m, length-append ks ms, is),
          sym (kind_left ks ms c low) ∙ k ∙ kind_right ks ms d high ∙ ap (λ j. kind_at ms (d - j)) is,
        )

    here : (s t : Bool) → nat_lt a n ≡ s → nat_lt b n ≡ t → cond (s && not t) (Some (a, b - n)) (cond (t && not s) (Some (b, a - n)) None) ≡ Some p → Equal ks ms p
    here true true l r f = cc
    here false false l r f = cc
    here true false l r f = both a b p l r lb e f
    here false true l r f = both b a p r l la (sym e) f

pairs_some : (n : ℕ) (js : List Conjunct) → list_any (λ j. is_some (pair_of n j)) js ≡ true → pairs_of n js ≢ []
pairs_some n [] e = absurd (false≢true e)
pairs_some n (j ∷ js) e = here (pair_of n j) refl e (pairs_some n js)
  where
    here : (o : Option (ℕ × ℕ)) → pair_of n j ≡ o → (is_some o || list_any (λ i. is_some (pair_of n i)) js) ≡ true → (list_any (λ i. is_some (pair_of n i)) js ≡ true → pairs_of n js ≢ []) → pairs_of n (j ∷ js) ≢ []
    here None f e more = rw f (more e)
    here (Some p) f e more = rw f (λ g. cc)

-- a comma that is linked has a pair
linked_some : (n m : ℕ) (ws : List Conjunct) → list_any (link n m) ws ≡ true → list_any (λ j. is_some (pair_of n j)) (filter (within m) ws) ≡ true
linked_some n m [] e = e
linked_some n m (j ∷ ws) e = here (within m j) (is_some (pair_of n j)) refl e (linked_some n m ws)
  where
    here : (b c : Bool) → is_some (pair_of n j) ≡ c → ((b && c) || list_any (link n m) ws) ≡ true → (list_any (link n m) ws ≡ true → list_any (λ i. is_some (pair_of n i)) (filter (within m) ws) ≡ true)
        → list_any (λ i. is_some (pair_of n i)) (cond b (j ∷ filter (within m) ws) (filter (within m) ws)) ≡ true
    here true true f e more = ap (λ c. c || list_any (λ i. is_some (pair_of n i)) (filter (within m) ws)) f
    here true false f e more = ap (λ c. c || list_any (λ i. is_some (pair_of n i)) (filter (within m) ws)) f ∙ more e
    here false c f e more = more e

-- ---- places of a join

apart_up : (n : ℕ) (xs : List ℕ) → Apart xs → Apart (map (λ k. n + k) xs)
apart_up n xs h = apart_map (λ k. n + k) (λ k. Unit {0}) (λ x y a b e. omega (arith, e)) xs (each_for xs (λ k. tt)) h

apart_onward : (n : ℕ) (tl tr : List ℕ) → Each (λ k. k < n) tl → Apart tl → Apart tr → Apart (tl ++ map (λ k. n + k) tr)
apart_onward n [] tr low h k = apart_up n tr k
apart_onward n (x ∷ tl) tr low h k =
    let l = low.0 in (
      each_append (λ y. x ≢ y) tl (map (λ j. n + j) tr) h.0 (each_map (λ y. x ≢ y) (λ j. n + j) tr (each_for tr (λ y e. let bad : ⊥ = omega (arith, e, l) in bad))),
      apart_onward n tl tr low.1 h.1 k,
    )

apart_backward : (n : ℕ) (tl tr : List ℕ) → Each (λ k. k < n) tr → Apart tl → Apart tr → Apart (map (λ k. n + k) tl ++ tr)
apart_backward n [] tr low h k = k
apart_backward n (x ∷ tl) tr low h k = (
  each_append (λ y. n + x ≢ y) (map (λ j. n + j) tl) tr
      (each_map (λ y. n + x ≢ y) (λ j. n + j) tl (each_implies (λ y. x ≢ y) (λ y. n + x ≢ n + y) tl (λ y d e. d (omega (arith, e))) h.0))
      (each_implies (λ y. y < n) (λ y. n + x ≢ y) tr (λ y l e. let bad : ⊥ = omega (arith, l, e) in bad) low),
  apart_backward n tl tr low h.1 k,
)

raised : (n m : ℕ) (xs : List ℕ) → Each (λ k. k < m) xs → Each (λ k. k < n + m) (map (λ k. n + k) xs)
raised n m xs h = each_map (λ k. k < n + m) (λ k. n + k) xs (each_implies (λ k. k < m) (λ k. n + k < n + m) xs (λ k l. omega (arith, l)) h)

widened : (n m : ℕ) (xs : List ℕ) → Each (λ k. k < n) xs → Each (λ k. k < n + m) xs
widened n m xs h = each_implies (λ k. k < n) (λ k. k < n + m) xs (λ k l. omega (arith, l)) h

module _ (S : List Table) where
  pair_equal : (ks ms : List ColKind) (n : ℕ) → length ks ≡ n → (j : Conjunct) → Good S (ks ++ ms) j → (p : ℕ × ℕ) → pair_of n j ≡ Some p → Equal ks ms p
  pair_equal ks ms n is (keeps (preds.compare signs.Eq (operands.Column a) (operands.Column b))) g p e = across_equal ks ms n is a b g.0.0 g.0.1.0 g.3 p e
  pair_equal ks ms n is (keeps (preds.compare signs.Eq (operands.Column a) (operands.Constant w))) g p e = cc
  pair_equal ks ms n is (keeps (preds.compare signs.Eq (operands.Constant v) b)) g p e = cc
  pair_equal ks ms n is (keeps (preds.compare signs.Ne a b)) g p e = cc
  pair_equal ks ms n is (keeps (preds.compare signs.Lt a b)) g p e = cc
  pair_equal ks ms n is (keeps (preds.compare signs.Le a b)) g p e = cc
  pair_equal ks ms n is (keeps (preds.compare signs.Gt a b)) g p e = cc
  pair_equal ks ms n is (keeps (preds.compare signs.Ge a b)) g p e = cc
  pair_equal ks ms n is (keeps (preds.is_null c)) g p e = cc
  pair_equal ks ms n is (keeps (preds.is_not_null c)) g p e = cc
  pair_equal ks ms n is (keeps (preds.in_list c vs)) g p e = cc
  pair_equal ks ms n is (keeps (preds.all_of ps)) g p e = cc
  pair_equal ks ms n is (keeps (preds.any_of ps)) g p e = cc
  pair_equal ks ms n is (keeps (preds.negated q)) g p e = cc
  pair_equal ks ms n is (is_in cols q) g p e = cc

  pairs_equal : (ks ms : List ColKind) (n : ℕ) → length ks ≡ n → (js : List Conjunct) → Each (Good S (ks ++ ms)) js → Each (Equal ks ms) (pairs_of n js)
  pairs_equal ks ms n is [] g = tt
  pairs_equal ks ms n is (j ∷ js) g = here (pair_of n j) refl (pairs_equal ks ms n is js g.1)
    where
      here : (o : Option (ℕ × ℕ)) → pair_of n j ≡ o → Each (Equal ks ms) (pairs_of n js) → Each (Equal ks ms) (pairs_of n (j ∷ js))
      here None e k = rw e k
      here (Some p) e k = let q = pair_equal ks ms n is j g.0 p e in rw e (q, k)

  -- two operands, and the pairs of a join
  module _ (kl kr : List ColKind) (tl tr : List ℕ) (pl pr : PlanTree) (l : Part S kl tl pl) (r : Part S kr tr pr) (n : ℕ) (is : width pl ≡ n) (m : ℕ) (other : width pr ≡ m) where
    module _ (ps : List (ℕ × ℕ)) (some : ps ≢ []) (good : Each (Equal kl kr) ps) where
      abbrev pub lefts : List ℕ
      lefts = map (at_place tl) (firsts ps)

      abbrev pub rights : List ℕ
      rights = map (at_place tr) (seconds ps)

      low_left : Each (λ k. k < length kl) (firsts ps)
      low_left = each_map (λ k. k < length kl) (λ (p : ℕ × ℕ). p.0) ps (each_implies (Equal kl kr) (λ p. p.0 < length kl) ps (λ p h. h.0) good)

      low_right : Each (λ k. k < length kr) (seconds ps)
      low_right = each_map (λ k. k < length kr) (λ (p : ℕ × ℕ). p.1) ps (each_implies (Equal kl kr) (λ p. p.1 < length kr) ps (λ p h. h.1) good)

      mapped_some : (f : ℕ × ℕ → ℕ) (g : ℕ → ℕ) (xs : List (ℕ × ℕ)) → xs ≢ [] → map g (map f xs) ≢ []
      mapped_some f g [] h e = h refl
      mapped_some f g (x ∷ xs) h e = cc

      kinds_meet : (qs : List (ℕ × ℕ)) → Each (Equal kl kr) qs → kinds_at kl (firsts qs) ≡ kinds_at kr (seconds qs)
      kinds_meet [] h = refl
      kinds_meet (q ∷ qs) h = λ i. h.0.2 i ∷ kinds_meet qs h.1 i

      pub join_pairs : Pairs (width pl) (width pr) lefts rights
      join_pairs = record {
        lefts = record { some = mapped_some (λ p. p.0) (at_place tl) ps some; within = part_below S kl tl pl l (firsts ps) low_left };
        rights = record { some = mapped_some (λ p. p.1) (at_place tr) ps some; within = part_below S kr tr pr r (seconds ps) low_right };
        equally_many = length_map (at_place tl) (firsts ps) ∙ length_map (λ (p : ℕ × ℕ). p.0) ps ∙ sym (length_map (at_place tr) (seconds ps) ∙ length_map (λ (p : ℕ × ℕ). p.1) ps);
      }

      pub join_kinds : kinds_at (plan_kinds S pl) lefts ≡ kinds_at (plan_kinds S pr) rights
      join_kinds = part_kinds S kl tl pl l (firsts ps) low_left ∙ kinds_meet ps good ∙ sym (part_kinds S kr tr pr r (seconds ps) low_right)

    onward_apart : Apart (tl ++ map (λ k. n + k) tr)
    onward_apart = apart_onward n tl tr (subst (λ w. Each (λ k. k < w) tl) is l.within) l.apart r.apart

    onward_within : Each (λ k. k < width pl + width pr) (tl ++ map (λ k. n + k) tr)
    onward_within = each_append (λ k. k < width pl + width pr) tl (map (λ k. n + k) tr) (widened (width pl) (width pr) tl l.within)
        (subst (λ w. Each (λ k. k < w + width pr) (map (λ k. n + k) tr)) (sym is) (raised n (width pr) tr r.within))

    onward_kinds : kinds_at (plan_kinds S pl ++ plan_kinds S pr) (tl ++ map (λ k. n + k) tr) ≡ kl ++ kr
    onward_kinds =
        map_append (kind_at (plan_kinds S pl ++ plan_kinds S pr)) tl (map (λ k. n + k) tr)
        ∙ (λ i. (kinds_left (plan_kinds S pl) (plan_kinds S pr) (width pl) (kinds_length S pl l.nodes) tl l.within ∙ l.kinds) i
        ++ (kinds_up (plan_kinds S pl) (plan_kinds S pr) n (kinds_length S pl l.nodes ∙ is) tr ∙ r.kinds) i)

    backward_within : Each (λ k. k < width pr + width pl) (map (λ k. m + k) tl ++ tr)
    backward_within = each_append (λ k. k < width pr + width pl) (map (λ k. m + k) tl) tr
        (subst (λ w. Each (λ k. k < w + width pl) (map (λ k. m + k) tl)) (sym other) (raised m (width pl) tl l.within)) (widened (width pr) (width pl) tr r.within)

    backward_kinds : kinds_at (plan_kinds S pr ++ plan_kinds S pl) (map (λ k. m + k) tl ++ tr) ≡ kl ++ kr
    backward_kinds =
        map_append (kind_at (plan_kinds S pr ++ plan_kinds S pl)) (map (λ k. m + k) tl) tr
        ∙ (λ i. (kinds_up (plan_kinds S pr) (plan_kinds S pl) m (kinds_length S pr r.nodes ∙ other) tl ∙ l.kinds) i
        ++ (kinds_left (plan_kinds S pr) (plan_kinds S pl) (width pr) (kinds_length S pr r.nodes) tr r.within ∙ r.kinds) i)

    module _ (ps : List (ℕ × ℕ)) (some : ps ≢ []) (good : Each (Equal kl kr) ps) where
      pub inner_part : Part S (kl ++ kr) (tl ++ map (λ k. n + k) tr) (plans.inner_join (lefts ps some good) (rights ps some good) pl pr)
      inner_part = record {
        apart = onward_apart;
        within = onward_within;
        kinds = onward_kinds;
        fit = (join_pairs ps some good, l.fit, r.fit);
        nodes = (join_kinds ps some good, l.nodes, r.nodes);
      }

      pub left_part : Part S (kl ++ kr) (tl ++ map (λ k. n + k) tr) (plans.left_join (lefts ps some good) (rights ps some good) pl pr)
      left_part = record {
        apart = onward_apart;
        within = onward_within;
        kinds = onward_kinds;
        fit = (join_pairs ps some good, l.fit, r.fit);
        nodes = (join_kinds ps some good, l.nodes, r.nodes);
      }

      pub right_part : Part S (kl ++ kr) (map (λ k. m + k) tl ++ tr) (plans.left_join (rights ps some good) (lefts ps some good) pr pl)
      right_part =
          let pairs = join_pairs ps some good in
          record {
            apart = apart_backward m tl tr (subst (λ w. Each (λ k. k < w) tr) other r.within) l.apart r.apart;
            within = backward_within;
            kinds = backward_kinds;
            fit = (record { lefts = pairs.rights; rights = pairs.lefts; equally_many = sym pairs.equally_many }, r.fit, l.fit);
            nodes = (sym (join_kinds ps some good), r.nodes, l.nodes);
          }

  -- the joins of FROM
  module _ (kl kr : List ColKind) (tl tr : List ℕ) (pl pr : PlanTree) (l : Part S kl tl pl) (r : Part S kr tr pr) (n : ℕ) (is : width pl ≡ n) (wide : length kl ≡ n) (m : ℕ) (other : width pr ≡ m) where
    pub comma_regular : (rest : List ColKind) (all : ℕ) → length (kl ++ kr) ≡ all → (ws : List Conjunct) → Each (Good S ((kl ++ kr) ++ rest)) ws → list_any (link n all) ws ≡ true
        → Part S (kl ++ kr) (tl ++ map (λ k. n + k) tr) (comma_of n all tl tr ws pl pr)
    comma_regular rest all both ws g linked =
        let js = filter (within all) ws in
        let here : Each (Good S (kl ++ kr)) js =
        each_passing (Good S (kl ++ kr)) (within all) ws
        (each_implies (Good S ((kl ++ kr) ++ rest)) (λ j. within all j ≡ true → Good S (kl ++ kr) j) ws
        (λ j h e. good_low S (kl ++ kr) rest j (subst (λ w. Each (λ k. k < w) (conjunct_columns j)) (sym both) (low_all all (conjunct_columns j) e)) h) g) in
        inner_part kl kr tl tr pl pr l r n is m other (pairs_of n js) (pairs_some n js (linked_some n all ws linked)) (pairs_equal kl kr n wide js here)

    module _ (js : List Conjunct) (g : Each (Good S (kl ++ kr)) js) (paired : list_any (λ j. is_some (pair_of n j)) js ≡ true) where
      others_good : Each (Good S (kl ++ kr)) (others_of n js)
      others_good = each_filter (Good S (kl ++ kr)) (λ j. not (is_some (pair_of n j))) js g

      pub inner_regular : Part S (kl ++ kr) (tl ++ map (λ k. n + k) tr) (inner_of n tl tr (tl ++ map (λ k. n + k) tr) js pl pr)
      inner_regular = part_stacked S (kl ++ kr) (tl ++ map (λ k. n + k) tr) (others_of n js) _ others_good
          (inner_part kl kr tl tr pl pr l r n is m other (pairs_of n js) (pairs_some n js paired) (pairs_equal kl kr n wide js g))

      pub left_regular : Each (λ j. Each (λ k. n ≤ k) (conjunct_columns j)) (others_of n js) → Part S (kl ++ kr) (tl ++ map (λ k. n + k) tr) (left_of n tl tr js pl pr)
      left_regular high =
          let os = map (on_right n) (others_of n js) in
          let over = part_stacked S kr tr os pr
          (each_map (Good S kr) (on_right n) (others_of n js)
          (each_both (Good S (kl ++ kr)) (λ j. Each (λ k. n ≤ k) (conjunct_columns j)) (λ j. Good S kr (on_right n j)) (others_of n js) (λ j h k. good_high S kl kr n wide j k h) others_good high)) r in
          left_part kl kr tl tr pl (stacked tr os pr) l over n is m (width_stacked [] tr os pr ∙ other) (pairs_of n js) (pairs_some n js paired) (pairs_equal kl kr n wide js g)

      pub right_regular : Each (λ j. Each (λ k. k < n) (conjunct_columns j)) (others_of n js) → Part S (kl ++ kr) (map (λ k. m + k) tl ++ tr) (right_of n tl tr js pl pr)
      right_regular low =
          let over = part_stacked S kl tl (others_of n js) pl
          (each_both (Good S (kl ++ kr)) (λ j. Each (λ k. k < n) (conjunct_columns j)) (Good S kl) (others_of n js) (λ j h k. good_low S kl kr j (subst (λ w. Each (λ i. i < w) (conjunct_columns j)) (sym wide) k) h) others_good low) l in
          right_part kl kr tl tr (stacked tl (others_of n js) pl) pr over r n (width_stacked [] tl (others_of n js) pl ∙ is) m other (pairs_of n js) (pairs_some n js paired) (pairs_equal kl kr n wide js g)
