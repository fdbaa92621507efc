-- An operand of FROM: its rows by names are its plan's rows by places.
use Rattle.std.proofs.Common.{◌≡◌, ℕ, zero, suc, ◌+◌, ◌-◌, ◌<◌, ◌≤◌, Bool, ◌&&◌, List, [], ◌∷◌, ◌++◌, map, length, length-append, filter, refl, sym, ap, subst, ◌∙◌, arith}
use Rattle.std.specs.Prelude.{flat_map}
use Rattle.wt_bag.specs.Bags.{total, SameSums, Each}
use Rattle.wt_bag.proofs.EachLaws.{each_implies, each_append, each_map, each_filter, each_flat_map}
use Rattle.wt_bag.proofs.TotalLaws.{total-map, total_each}
use Rattle.wt_value.specs.declared.value.Value.TheVariants.{Null}
use Rattle.wt_value.specs.Values.{Tuple, row_matches, value_at, pick}
use Rattle.wt_query_rows.specs.declared.scope.ScopeColumn.{ScopeColumn}
use Rattle.wt_query_rows.specs.Rows.{Named, cell, named, nulls, or_padded}
use Rattle.wt_plan.specs.Tree.{PlanTree}
use Rattle.wt_plan.specs.Rows.{plan_rows, null_row, joined, or_nulls}
use Rattle.wt_plan.specs.Measures.{width}
use Rattle.wt_query_plan.specs.Building.{Conjunct, conjunct_columns, at_place, stacked, pairs_of, others_of, on_right, firsts, seconds, inner_of, left_of, right_of}
use Rattle.wt_plan.specs.Regular.{upto}
use Rattle.wt_query_plan.specs.Standing.{OnRight, OnLeft}
use Rattle.wt_query_plan.proofs.Lookup.{map_append, named_append, one_less, no_suc, suc_zero}
use Rattle.wt_plan.proofs.Upto.{pick_upto, length_map, length_upto, upto_within}
use Rattle.wt_query_plan.proofs.Stacking.{all_at, pick_places, stacked_rows, width_stacked}
use Rattle.wt_plan.proofs.Together.{value_left, value_right, pick_left, pick_right, null_value, null_length}
use Rattle.wt_query_plan.proofs.Joining.{pairs_match, split_holds, rights_hold, lefts_hold, rows_match_sym}
use Rattle.wt_query_plan.proofs.JoinSums.{inner_law, kept_law}
use Rattle.wt_plan.specs.Tree as plans
use Rattle.wt_plan.proofs.Widths.{Wide, kept_wide_row}

pub record Operand (base : List (List Tuple)) (scope : List ScopeColumn) (places : List ℕ) (plan : PlanTree) (rows : List Named) : Type 0 where
  pub same_length : length places ≡ length scope
  pub within : Each (λ k. k < length places) places
  pub wide : Wide (length places) (plan_rows base plan)
  pub planned_width : width plan ≡ length places
  pub sums : (g : Named → ℕ) → total g rows ≡ total (λ v. g (named scope (pick places v))) (plan_rows base plan)

-- a table, or a query in parentheses
pub leaf_operand : (base : List (List Tuple)) (scope : List ScopeColumn) (plan : PlanTree) (rows : List Tuple) → SameSums rows (plan_rows base plan) → Wide (length scope) (plan_rows base plan)
    → width plan ≡ length scope → Operand base scope (upto (length scope)) plan (map (named scope) rows)
leaf_operand base scope plan rows same wide is = record {
  same_length = length_upto (length scope);
  within = subst (λ n. Each (λ k. k < n) (upto (length scope))) (sym (length_upto (length scope))) (upto_within (length scope));
  wide = subst (λ n. Wide n (plan_rows base plan)) (sym (length_upto (length scope))) wide;
  planned_width = is ∙ sym (length_upto (length scope));
  sums = λ g. total-map g (named scope) rows ∙ same.sums (λ v. g (named scope v))
      ∙ total_each _ _ (plan_rows base plan) (each_implies (λ v. length v ≡ length scope) (λ v. g (named scope v) ≡ g (named scope (pick (upto (length scope)) v))) (plan_rows base plan)
      (λ v e. ap (λ w. g (named scope w)) (sym (pick_upto v) ∙ ap (λ n. pick (upto n) v) e)) wide);
}

named_nulls : (scope : List ScopeColumn) (places : List ℕ) (n : ℕ) → length places ≡ length scope → named scope (pick places (null_row n)) ≡ nulls scope
named_nulls [] [] n e = refl
named_nulls [] (k ∷ places) n e = absurd (suc_zero e)
named_nulls (s ∷ scope) [] n e = absurd (no_suc e)
named_nulls (s ∷ scope) (k ∷ places) n e = λ i. cell s (null_value n k i) ∷ named_nulls scope places n (one_less _ _ e) i

-- The joins of two operands under an ON condition, whose conjuncts over places are `js`.
module _ (base : List (List Tuple)) (hl hr : List ScopeColumn) (tl tr : List ℕ) (pl pr : PlanTree) (L R : List Named)
    (l : Operand base hl tl pl L) (r : Operand base hr tr pr R) (js : List Conjunct) (on : Named → Bool)
    (asked : (z : Tuple) → length z ≡ length (hl ++ hr) → on (named (hl ++ hr) z) ≡ all_at base js z) where
  length_left : (u : Tuple) → length (pick tl u) ≡ length hl
  length_left u = length_map (value_at u) tl ∙ l.same_length

  length_both : (u v : Tuple) → length (pick tl u ++ pick tr v) ≡ length (hl ++ hr)
  length_both u v = omega (arith, length-append (pick tl u) (pick tr v), length-append hl hr, length_left u, length_map (value_at v) tr, r.same_length)

  -- what ON asks of a row in the order of the text
  asks : (u v : Tuple) → on (named hl (pick tl u) ++ named hr (pick tr v))
      ≡ pairs_match base (pick tl u) (pick tr v) (pairs_of (length hl) js) && all_at base (others_of (length hl) js) (pick tl u ++ pick tr v)
  asks u v =
      ap on (sym (named_append hl hr (pick tl u) (pick tr v) (length_left u)))
      ∙ asked (pick tl u ++ pick tr v) (length_both u v)
      ∙ subst (λ k. all_at base js (pick tl u ++ pick tr v) ≡ pairs_match base (pick tl u) (pick tr v) (pairs_of k js) && all_at base (others_of k js) (pick tl u ++ pick tr v)) (length_left u)
      (split_holds base (pick tl u) (pick tr v) js)

  abbrev pub lefts : List ℕ
  lefts = map (at_place tl) (firsts (pairs_of (length hl) js))

  abbrev pub rights : List ℕ
  rights = map (at_place tr) (seconds (pairs_of (length hl) js))

  matched : (u v : Tuple) → length u ≡ length tl → length v ≡ length tr → pairs_match base (pick tl u) (pick tr v) (pairs_of (length hl) js) ≡ row_matches (pick lefts u) (pick rights v)
  matched u v e f = λ i. row_matches (sym (pick_places u tl e (firsts (pairs_of (length hl) js))) i) (sym (pick_places v tr f (seconds (pairs_of (length hl) js))) i)

  -- places of a join in the order of the text, and of one in which the right operand stands first
  abbrev pub onward : List ℕ
  onward = tl ++ map (λ k. length hl + k) tr

  abbrev pub backward : List ℕ
  backward = map (λ k. length hr + k) tl ++ tr

  pub pick_onward : (u v : Tuple) → length u ≡ length tl → pick onward (u ++ v) ≡ pick tl u ++ pick tr v
  pick_onward u v e =
      let is : length u ≡ length hl = e ∙ l.same_length in
      map_append (value_at (u ++ v)) tl (map (λ k. length hl + k) tr)
      ∙ (λ i. pick_left tl u v (subst (λ k. Each (λ j. j < k) tl) (sym e) l.within) i ++ (ap (λ k. pick (map (λ j. k + j) tr) (u ++ v)) (sym is) ∙ pick_right tr u v) i)

  pick_backward : (u v : Tuple) → length v ≡ length tr → pick backward (v ++ u) ≡ pick tl u ++ pick tr v
  pick_backward u v e =
      let is : length v ≡ length hr = e ∙ r.same_length in
      map_append (value_at (v ++ u)) (map (λ k. length hr + k) tl) tr
      ∙ (λ i. (ap (λ k. pick (map (λ j. k + j) tl) (v ++ u)) (sym is) ∙ pick_right tl v u) i ++ pick_left tr v u (subst (λ k. Each (λ j. j < k) tr) (sym e) r.within) i)

  length_onward : length onward ≡ length tl + length tr
  length_onward = omega (arith, length-append tl (map (λ k. length hl + k) tr), length_map (λ k. length hl + k) tr)

  length_backward : length backward ≡ length tl + length tr
  length_backward = omega (arith, length-append (map (λ k. length hr + k) tl) tr, length_map (λ k. length hr + k) tl)

  onward_within : Each (λ k. k < length onward) onward
  onward_within = each_append (λ k. k < length onward) tl (map (λ k. length hl + k) tr)
      (each_implies (λ k. k < length tl) (λ k. k < length onward) tl (λ k h. omega (arith, length_onward)) l.within)
      (each_map (λ k. k < length onward) (λ k. length hl + k) tr (each_implies (λ k. k < length tr) (λ k. length hl + k < length onward) tr (λ k h. omega (arith, length_onward, l.same_length)) r.within))

  backward_within : Each (λ k. k < length backward) backward
  backward_within = each_append (λ k. k < length backward) (map (λ k. length hr + k) tl) tr
      (each_map (λ k. k < length backward) (λ k. length hr + k) tl (each_implies (λ k. k < length tl) (λ k. length hr + k < length backward) tl (λ k h. omega (arith, length_backward, r.same_length)) l.within))
      (each_implies (λ k. k < length tr) (λ k. k < length backward) tr (λ k h. omega (arith, length_backward)) r.within)

  head_length : length tl + length tr ≡ length (hl ++ hr)
  head_length = omega (arith, length-append hl hr, l.same_length, r.same_length)

  abbrev pub joined_rows : List Tuple
  joined_rows = flat_map (λ u. joined lefts rights u (plan_rows base pr)) (plan_rows base pl)

  wide_joined : Wide (length onward) joined_rows
  wide_joined = each_flat_map (λ w. length w ≡ length onward) (λ u. joined lefts rights u (plan_rows base pr)) (plan_rows base pl)
      (each_implies (λ u. length u ≡ length tl) (λ u. Each (λ w. length w ≡ length onward) (joined lefts rights u (plan_rows base pr))) (plan_rows base pl)
      (λ u e. each_map (λ w. length w ≡ length onward) (λ v. u ++ v) (filter (λ v. row_matches (pick lefts u) (pick rights v)) (plan_rows base pr))
      (each_filter (λ v. length (u ++ v) ≡ length onward) (λ v. row_matches (pick lefts u) (pick rights v)) (plan_rows base pr)
      (each_implies (λ v. length v ≡ length tr) (λ v. length (u ++ v) ≡ length onward) (plan_rows base pr) (λ v f. omega (arith, length-append u v, length_onward)) r.wide))) l.wide)

  pub inner_operand : Operand base (hl ++ hr) onward (inner_of (length hl) tl tr onward js pl pr) (flat_map (λ x. filter on (map (λ y. x ++ y) R)) L)
  inner_operand =
      let os = others_of (length hl) js in
      let plan = plans.inner_join lefts rights pl pr in
      let rows = stacked_rows base onward os plan wide_joined in
      record {
        same_length = length_onward ∙ head_length;
        within = onward_within;
        wide = subst (Wide (length onward)) (sym rows) (each_filter (λ w. length w ≡ length onward) (λ w. all_at base os (pick onward w)) joined_rows wide_joined);
        planned_width = width_stacked base onward os plan ∙ omega (arith, l.planned_width, r.planned_width, length_onward);
        sums = λ g.
            inner_law L R (plan_rows base pl) (plan_rows base pr) (λ u. named hl (pick tl u)) (λ v. named hr (pick tr v)) l.sums r.sums (λ x y. x ++ y) on
            (λ u v. row_matches (pick lefts u) (pick rights v)) (λ w. named (hl ++ hr) (pick onward w)) (λ w. all_at base os (pick onward w))
            (each_implies (λ u. length u ≡ length tl) _ (plan_rows base pl)
            (λ u e. each_implies (λ v. length v ≡ length tr) _ (plan_rows base pr)
            (λ v f. record {
              same = asks u v ∙ (λ i. matched u v e f i && all_at base os (sym (pick_onward u v e) i));
              seen = ap (named (hl ++ hr)) (pick_onward u v e) ∙ named_append hl hr (pick tl u) (pick tr v) (length_left u);
            }) r.wide) l.wide) g
            ∙ ap (total (λ w. g (named (hl ++ hr) (pick onward w)))) (sym rows);
      }

  -- rows of a left join are as wide as both operands
  wide_kept : (a b : List ℕ) (m k : ℕ) (us vs : List Tuple) (w : ℕ) → Wide m us → Wide k vs → w ≡ k → Wide (m + k) (flat_map (λ u. or_nulls (u ++ null_row w) (joined a b u vs)) us)
  wide_kept a b m k us vs w hu hv e = each_flat_map (λ z. length z ≡ m + k) (λ u. or_nulls (u ++ null_row w) (joined a b u vs)) us
      (each_implies (λ u. length u ≡ m) (λ u. Each (λ z. length z ≡ m + k) (or_nulls (u ++ null_row w) (joined a b u vs))) us
      (λ u f. kept_wide_row (m + k) (null_row w) u (joined a b u vs) (omega (arith, length-append u (null_row w), null_length w))
      (each_map (λ z. length z ≡ m + k) (λ v. u ++ v) (filter (λ v. row_matches (pick a u) (pick b v)) vs)
      (each_filter (λ v. length (u ++ v) ≡ m + k) (λ v. row_matches (pick a u) (pick b v)) vs
      (each_implies (λ v. length v ≡ k) (λ v. length (u ++ v) ≡ m + k) vs (λ v g. omega (arith, length-append u v)) hv)))) hu)

  pub left_operand : OnRight (length hl) js
      → Operand base (hl ++ hr) onward (left_of (length hl) tl tr js pl pr) (flat_map (λ x. or_padded (x ++ nulls hr) (filter on (map (λ y. x ++ y) R))) L)
  left_operand apart =
      let os = others_of (length hl) js in
      let rs = map (on_right (length hl)) os in
      let rows = stacked_rows base tr rs pr r.wide in
      let plan_width = width_stacked base tr rs pr ∙ r.planned_width in
      let wide_right : Wide (length tr) (plan_rows base (stacked tr rs pr)) = subst (Wide (length tr)) (sym rows) (each_filter (λ v. length v ≡ length tr) (λ v. all_at base rs (pick tr v)) (plan_rows base pr) r.wide) in
      record {
        same_length = length_onward ∙ head_length;
        within = onward_within;
        wide = subst (λ k. Wide k (plan_rows base (left_of (length hl) tl tr js pl pr))) (sym length_onward)
            (wide_kept lefts rights (length tl) (length tr) (plan_rows base pl) (plan_rows base (stacked tr rs pr)) (width (stacked tr rs pr)) l.wide wide_right plan_width);
        planned_width = omega (arith, l.planned_width, plan_width, length_onward);
        sums = λ g.
            kept_law L R (plan_rows base pl) (plan_rows base pr) (λ u. named hl (pick tl u)) (λ v. named hr (pick tr v)) l.sums r.sums (λ x y. x ++ y) on
            (λ u v. row_matches (pick lefts u) (pick rights v)) (λ w. named (hl ++ hr) (pick onward w)) (λ v. all_at base rs (pick tr v)) (λ x. x ++ nulls hr) (null_row (width (stacked tr rs pr)))
            (each_implies (λ u. length u ≡ length tl) _ (plan_rows base pl)
            (λ u e. record {
              partners = each_implies (λ v. length v ≡ length tr) _ (plan_rows base pr)
                  (λ v f. record {
                    same = asks u v ∙ (λ i. matched u v e f i
                        && subst (λ k. all_at base os (pick tl u ++ pick tr v) ≡ all_at base (map (on_right k) os) (pick tr v)) (length_left u)
                        (sym (rights_hold base (pick tl u) (pick tr v) os (subst (λ k. Each (λ j. Each (λ c. k ≤ c) (conjunct_columns j)) os) (sym (length_left u)) apart))) i);
                    seen = ap (named (hl ++ hr)) (pick_onward u v e) ∙ named_append hl hr (pick tl u) (pick tr v) (length_left u);
                  }) r.wide;
              alone = ap (named (hl ++ hr)) (pick_onward u (null_row (width (stacked tr rs pr))) e)
                  ∙ named_append hl hr (pick tl u) (pick tr (null_row (width (stacked tr rs pr)))) (length_left u)
                  ∙ ap (λ z. named hl (pick tl u) ++ z) (named_nulls hr tr (width (stacked tr rs pr)) r.same_length);
            }) l.wide) g
            ∙ ap (λ vs. total (λ w. g (named (hl ++ hr) (pick onward w))) (flat_map (λ u. or_nulls (u ++ null_row (width (stacked tr rs pr))) (joined lefts rights u vs)) (plan_rows base pl))) (sym rows);
      }

  pub right_operand : OnLeft (length hl) js
      → Operand base (hl ++ hr) backward (right_of (length hl) tl tr js pl pr) (flat_map (λ y. or_padded (nulls hl ++ y) (filter on (map (λ x. x ++ y) L))) R)
  right_operand apart =
      let os = others_of (length hl) js in
      let rows = stacked_rows base tl os pl l.wide in
      let plan_width = width_stacked base tl os pl ∙ l.planned_width in
      let wide_left : Wide (length tl) (plan_rows base (stacked tl os pl)) = subst (Wide (length tl)) (sym rows) (each_filter (λ u. length u ≡ length tl) (λ u. all_at base os (pick tl u)) (plan_rows base pl) l.wide) in
      let other_order : length tr + length tl ≡ length backward = omega (arith, length_backward) in
      record {
        same_length = length_backward ∙ head_length;
        within = backward_within;
        wide = subst (λ k. Wide k (plan_rows base (right_of (length hl) tl tr js pl pr))) other_order
            (wide_kept rights lefts (length tr) (length tl) (plan_rows base pr) (plan_rows base (stacked tl os pl)) (width (stacked tl os pl)) r.wide wide_left plan_width);
        planned_width = omega (arith, r.planned_width, plan_width, length_backward);
        sums = λ g.
            kept_law R L (plan_rows base pr) (plan_rows base pl) (λ v. named hr (pick tr v)) (λ u. named hl (pick tl u)) r.sums l.sums (λ y x. x ++ y) on
            (λ v u. row_matches (pick rights v) (pick lefts u)) (λ w. named (hl ++ hr) (pick backward w)) (λ u. all_at base os (pick tl u)) (λ y. nulls hl ++ y) (null_row (width (stacked tl os pl)))
            (each_implies (λ v. length v ≡ length tr) _ (plan_rows base pr)
            (λ v f. record {
              partners = each_implies (λ u. length u ≡ length tl) _ (plan_rows base pl)
                  (λ u e. record {
                    same = asks u v ∙ (λ i. (matched u v e f ∙ rows_match_sym (pick lefts u) (pick rights v)) i
                        && sym (lefts_hold base (pick tl u) (pick tr v) os (subst (λ k. Each (λ j. Each (λ c. c < k) (conjunct_columns j)) os) (sym (length_left u)) apart)) i);
                    seen = ap (named (hl ++ hr)) (pick_backward u v f) ∙ named_append hl hr (pick tl u) (pick tr v) (length_left u);
                  }) l.wide;
              alone = ap (named (hl ++ hr)) (pick_backward (null_row (width (stacked tl os pl))) v f)
                  ∙ named_append hl hr (pick tl (null_row (width (stacked tl os pl)))) (pick tr v) (length_left (null_row (width (stacked tl os pl))))
                  ∙ ap (λ z. z ++ named hr (pick tr v)) (named_nulls hl tl (width (stacked tl os pl)) l.same_length);
            }) r.wide) g
            ∙ ap (λ us. total (λ w. g (named (hl ++ hr) (pick backward w))) (flat_map (λ v. or_nulls (v ++ null_row (width (stacked tl os pl))) (joined rights lefts v us)) (plan_rows base pr))) (sym rows);
      }
