-- A plan's rows stay one bag where a subplan gives way to one that is as wide and has the same bag.
use Rattle.std.proofs.Common.{◌≡◌, ℕ, zero, suc, ◌+◌, ◌-◌, Bool, true, false, List, [], ◌∷◌, ◌++◌, map, filter, refl, sym, ap, ◌∙◌, subst, arith}
use Rattle.std.specs.Prelude.{nat_lt, flat_map, if◌then◌else◌}
use Rattle.std.specs.List.{list_any}
use Rattle.wt_bag.specs.Bags.{total, only, SameSums}
use Rattle.wt_bag.proofs.BagLaws.{same_elements, distinct_same}
use Rattle.wt_bag.proofs.TotalLaws.{total-map, total-flat_map, total-filter, total_ext}
use Rattle.wt_value.specs.Values.{Tuple, row_same, row_matches}
use Rattle.wt_value.proofs.Comparing.{row_same_decides}
use Rattle.wt_pred.specs.Tree.{PredTree}
use Rattle.wt_value.specs.Values.{pick}
use Rattle.wt_plan.specs.Tree.{PlanTree, table, proj, filtered, inner_join, left_join, in_sub, dedup}
use Rattle.wt_plan.specs.Measures.{width}
use Rattle.wt_plan.specs.Rows.{plan_rows}
use Rattle.wt_matching.proofs.Lists.{pairs}
use Rattle.wt_known.proofs.Agreeing.{or_null_row}
use Rattle.wt_plan.specs.Measures.{node_count}
use Rattle.wt_matching.specs.Nodes.{at, put}

-- two plans are equally wide and their rows are one bag
pub record Alike (base : List (List Tuple)) (p q : PlanTree) : Type 0 where
  pub sums : SameSums (plan_rows base p) (plan_rows base q)
  pub wide : width p ≡ width q

same : {X : Type 0} (xs : List X) → SameSums xs xs
same xs = record { sums = λ g. refl }

mapped : {X Y : Type 0} (f : X → Y) (xs ys : List X) → SameSums xs ys → SameSums (map f xs) (map f ys)
mapped f xs ys h = record { sums = λ g. total-map g f xs ∙ h.sums (λ x. g (f x)) ∙ sym (total-map g f ys) }

passing : {X : Type 0} (p : X → Bool) (xs ys : List X) → SameSums xs ys → SameSums (filter p xs) (filter p ys)
passing p xs ys h = record { sums = λ g. total-filter g p xs ∙ h.sums (λ x. only (p x) (g x)) ∙ sym (total-filter g p ys) }

passing_ext : {X : Type 0} (p q : X → Bool) (xs : List X) → ((x : X) → p x ≡ q x) → SameSums (filter p xs) (filter q xs)
passing_ext p q xs h = record { sums = λ g. total-filter g p xs ∙ total_ext (λ x. only (p x) (g x)) (λ x. only (q x) (g x)) xs (λ x. ap (λ b. only b (g x)) (h x)) ∙ sym (total-filter g q xs) }

spread : {X Y : Type 0} (f : X → List Y) (xs ys : List X) → SameSums xs ys → SameSums (flat_map f xs) (flat_map f ys)
spread f xs ys h = record { sums = λ g. total-flat_map g f xs ∙ h.sums (λ x. total g (f x)) ∙ sym (total-flat_map g f ys) }

spread_ext : {X Y : Type 0} (f k : X → List Y) (xs : List X) → ((x : X) → SameSums (f x) (k x)) → SameSums (flat_map f xs) (flat_map k xs)
spread_ext f k xs h = record { sums = λ g. total-flat_map g f xs ∙ total_ext (λ x. total g (f x)) (λ x. total g (k x)) xs (λ x. (h x).sums g) ∙ sym (total-flat_map g k xs) }

pairs_alike : (a b : List ℕ) (v : Tuple) (rs ss : List Tuple) → SameSums rs ss → SameSums (pairs a b v rs) (pairs a b v ss)
pairs_alike a b v rs ss h = mapped (λ right. v ++ right) _ _ (passing (λ right. row_matches (pick a v) (pick b right)) rs ss h)

added_alike : (w w' : ℕ) (v : Tuple) (rs ss : List Tuple) → w ≡ w' → SameSums rs ss → SameSums (or_null_row w v rs) (or_null_row w' v ss)
added_alike w w' v [] [] e h = subst (λ k. SameSums (or_null_row w v []) (or_null_row k v [])) e (same _)
added_alike w w' v [] (s ∷ ss) e h = absurd (omega (arith, h.sums (λ _. 1)))
added_alike w w' v (r ∷ rs) [] e h = absurd (omega (arith, h.sums (λ _. 1)))
added_alike w w' v (r ∷ rs) (s ∷ ss) e h = h

module _ (base : List (List Tuple)) where
  in_proj : (l : List ℕ) (p q : PlanTree) → Alike base p q → Alike base (proj l p) (proj l q)
  in_proj l p q h = record { sums = mapped (pick l) _ _ h.sums; wide = refl }

  in_filter : (f : PredTree) (l : List ℕ) (p q : PlanTree) → Alike base p q → Alike base (filtered f l p) (filtered f l q)
  in_filter f l p q h = record { sums = passing _ _ _ h.sums; wide = h.wide }

  in_inner_left : (a b : List ℕ) (p q r : PlanTree) → Alike base p q → Alike base (inner_join a b p r) (inner_join a b q r)
  in_inner_left a b p q r h = record { sums = spread _ _ _ h.sums; wide = ap (λ k. k + width r) h.wide }

  in_inner_right : (a b : List ℕ) (p q r : PlanTree) → Alike base q r → Alike base (inner_join a b p q) (inner_join a b p r)
  in_inner_right a b p q r h = record {
    sums = spread_ext (λ left. pairs a b left (plan_rows base q)) (λ left. pairs a b left (plan_rows base r)) (plan_rows base p) (λ left. pairs_alike a b left _ _ h.sums);
    wide = ap (λ k. width p + k) h.wide;
  }

  in_left_left : (a b : List ℕ) (p q r : PlanTree) → Alike base p q → Alike base (left_join a b p r) (left_join a b q r)
  in_left_left a b p q r h = record { sums = spread _ _ _ h.sums; wide = ap (λ k. k + width r) h.wide }

  in_left_right : (a b : List ℕ) (p q r : PlanTree) → Alike base q r → Alike base (left_join a b p q) (left_join a b p r)
  in_left_right a b p q r h = record {
    sums = spread_ext (λ left. or_null_row (width q) left (pairs a b left (plan_rows base q))) (λ left. or_null_row (width r) left (pairs a b left (plan_rows base r))) (plan_rows base p)
        (λ left. added_alike (width q) (width r) left _ _ h.wide (pairs_alike a b left _ _ h.sums));
    wide = ap (λ k. width p + k) h.wide;
  }

  in_sub_left : (a : List ℕ) (p q r : PlanTree) → Alike base p q → Alike base (in_sub a p r) (in_sub a q r)
  in_sub_left a p q r h = record { sums = passing _ _ _ h.sums; wide = h.wide }

  in_sub_right : (a : List ℕ) (p q r : PlanTree) → Alike base q r → Alike base (in_sub a p q) (in_sub a p r)
  in_sub_right a p q r h = record {
    sums = passing_ext (λ left. list_any (λ right. row_matches (pick a left) right) (plan_rows base q)) (λ left. list_any (λ right. row_matches (pick a left) right) (plan_rows base r)) (plan_rows base p)
        (λ left. (same_elements _ _ h.sums).tests (λ right. row_matches (pick a left) right));
    wide = refl;
  }

  in_dedup : (p q : PlanTree) → Alike base p q → Alike base (dedup p) (dedup q)
  in_dedup p q h = record { sums = distinct_same row_same row_same_decides _ _ (same_elements _ _ h.sums); wide = h.wide }

  itself : (p : PlanTree) → Alike base p p
  itself p = record { sums = same _; wide = refl }

  pub put_alike : (p : PlanTree) (n : ℕ) (r : PlanTree) → Alike base (at p n) r → Alike base p (put p n r)
  put_alike (table t w) zero r h = h
  put_alike (table t w) (suc n) r h = itself (table t w)
  put_alike (proj l p) zero r h = h
  put_alike (proj l p) (suc n) r h = in_proj l p (put p n r) (put_alike p n r h)
  put_alike (filtered f l p) zero r h = h
  put_alike (filtered f l p) (suc n) r h = in_filter f l p (put p n r) (put_alike p n r h)
  put_alike (inner_join a b p q) zero r h = h
  put_alike (inner_join a b p q) (suc n) r h = here (nat_lt n (node_count p)) (λ k. put_alike p n r k) (λ k. put_alike q (n - node_count p) r k) h
    where
      here : (t : Bool) → (Alike base (at p n) r → Alike base p (put p n r)) → (Alike base (at q (n - node_count p)) r → Alike base q (put q (n - node_count p) r)) →
          Alike base (if t then at p n else at q (n - node_count p)) r → Alike base (inner_join a b p q) (if t then inner_join a b (put p n r) q else inner_join a b p (put q (n - node_count p) r))
      here true f g h = in_inner_left a b p (put p n r) q (f h)
      here false f g h = in_inner_right a b p q (put q (n - node_count p) r) (g h)
  put_alike (left_join a b p q) zero r h = h
  put_alike (left_join a b p q) (suc n) r h = here (nat_lt n (node_count p)) (λ k. put_alike p n r k) (λ k. put_alike q (n - node_count p) r k) h
    where
      here : (t : Bool) → (Alike base (at p n) r → Alike base p (put p n r)) → (Alike base (at q (n - node_count p)) r → Alike base q (put q (n - node_count p) r)) →
          Alike base (if t then at p n else at q (n - node_count p)) r → Alike base (left_join a b p q) (if t then left_join a b (put p n r) q else left_join a b p (put q (n - node_count p) r))
      here true f g h = in_left_left a b p (put p n r) q (f h)
      here false f g h = in_left_right a b p q (put q (n - node_count p) r) (g h)
  put_alike (in_sub a p q) zero r h = h
  put_alike (in_sub a p q) (suc n) r h = here (nat_lt n (node_count p)) (λ k. put_alike p n r k) (λ k. put_alike q (n - node_count p) r k) h
    where
      here : (t : Bool) → (Alike base (at p n) r → Alike base p (put p n r)) → (Alike base (at q (n - node_count p)) r → Alike base q (put q (n - node_count p) r)) →
          Alike base (if t then at p n else at q (n - node_count p)) r → Alike base (in_sub a p q) (if t then in_sub a (put p n r) q else in_sub a p (put q (n - node_count p) r))
      here true f g h = in_sub_left a p (put p n r) q (f h)
      here false f g h = in_sub_right a p q (put q (n - node_count p) r) (g h)
  put_alike (dedup p) zero r h = h
  put_alike (dedup p) (suc n) r h = in_dedup p (put p n r) (put_alike p n r h)
