-- A match is unique where it exists, and what filling in and applying cost.
use Rattle.std.proofs.Common.{◌≡◌, ℕ, zero, suc, ◌+◌, ◌-◌, ◌<◌, ◌≤◌, Bool, true, false, List, map, refl, sym, ap, ◌∙◌, arith}
use Rattle.std.specs.Prelude.{nat_lt, if◌then◌else◌}
use Rattle.std.proofs.lemmas.Grind.{common_steps}
use Rattle.wt_bag.specs.Bags.{total}
use Rattle.wt_bag.proofs.TotalLaws.{total-append}
use Rattle.wt_symbol.specs.Sides as sides
use Rattle.wt_symbol.specs.Sides.{SideTree, leaves_of, lists_of, preds_of, weight_of}
use Rattle.wt_plan.specs.Tree.{PlanTree, table, proj, filtered, inner_join, left_join, in_sub, dedup}
use Rattle.wt_plan.specs.Measures.{cost}
use Rattle.wt_matching.specs.Filling.{Assigned, leaf_plan, pred_of, fill}
use Rattle.wt_matching.proofs.Assigning.{Covers}
use Rattle.wt_plan.specs.Measures.{node_count}
use Rattle.wt_matching.specs.Nodes.{at, put}
use Rattle.wt_matching.specs.Filling.{list_of}
use Rattle.wt_matching.specs.Finding.{Found, found, ArePlaced}
use Rattle.wt_matching.proofs.FindLaws.{just_same, finds}

-- two assignments under which the side is one plan give its symbols the same
pub record SameAssigned (s : SideTree) (m m' : Assigned) : Type 0 where
  pub leaves : map (leaf_plan m) (leaves_of s) ≡ map (leaf_plan m') (leaves_of s)
  pub lists : map (list_of m) (lists_of s) ≡ map (list_of m') (lists_of s)
  pub preds : map (pred_of m) (preds_of s) ≡ map (pred_of m') (preds_of s)

pub match_unique : (A : List ℕ) (s : SideTree) (m m' : Assigned) → Covers m s → Covers m' s → ArePlaced s A m → ArePlaced s A m' → fill s A m ≡ fill s A m' → SameAssigned s m m'
match_unique A s m m' c c' h h' e =
    let one = finds A m s c h in
    let two = finds A m' s c' h' in
    let seen : one.seen ≡ two.seen = just_same one.seen two.seen (sym one.found ∙ ap (found s A) e ∙ two.found) in
    record {
      leaves = sym one.reads.leaves ∙ ap (λ (x : Found). x.leaves) seen ∙ two.reads.leaves;
      lists = sym one.reads.lists ∙ ap (λ (x : Found). x.lists) seen ∙ two.reads.lists;
      preds = sym one.reads.preds ∙ ap (λ (x : Found). x.preds) seen ∙ two.reads.preds;
    }

-- a side filled in costs its weight and its leaves' plans
pub fill_cost : (A : List ℕ) (m : Assigned) (s : SideTree) → cost (fill s A m) ≡ weight_of s + total (λ r. cost (leaf_plan m r)) (leaves_of s)
fill_cost A m (sides.input r) = omega arith
fill_cost A m (sides.proj a s) = let ih = fill_cost A m s in omega (arith, ih)
fill_cost A m (sides.filtered p a s) = let ih = fill_cost A m s in omega (arith, ih)
fill_cost A m (sides.inner_join a b s t) = let l = fill_cost A m s in let r = fill_cost A m t in let both = total-append (λ r. cost (leaf_plan m r)) (leaves_of s) (leaves_of t) in omega (arith, l, r, both)
fill_cost A m (sides.left_join a b s t) = let l = fill_cost A m s in let r = fill_cost A m t in let both = total-append (λ r. cost (leaf_plan m r)) (leaves_of s) (leaves_of t) in omega (arith, l, r, both)
fill_cost A m (sides.in_sub a s t) = let l = fill_cost A m s in let r = fill_cost A m t in let both = total-append (λ r. cost (leaf_plan m r)) (leaves_of s) (leaves_of t) in omega (arith, l, r, both)
fill_cost A m (sides.dedup s) = let ih = fill_cost A m s in omega (arith, ih)

-- the plan with another subplan at a node costs as much more or less as that subplan does
pub put_cost : (p : PlanTree) (n : ℕ) (r : PlanTree) → n < node_count p → cost (put p n r) + cost (at p n) ≡ cost p + cost r
put_cost (table t w) zero r h = omega arith
put_cost (table t w) (suc n) r h = absurd (omega (arith, h))
put_cost (proj l p) zero r h = omega arith
put_cost (proj l p) (suc n) r h = let ih = put_cost p n r (omega (arith, h)) in omega (arith, ih)
put_cost (filtered f l p) zero r h = omega arith
put_cost (filtered f l p) (suc n) r h = let ih = put_cost p n r (omega (arith, h)) in omega (arith, ih)
put_cost (inner_join a b p q) zero r h = omega arith
put_cost (inner_join a b p q) (suc n) r h = here (nat_lt n (node_count p)) refl (λ k. put_cost p n r k) (λ k. put_cost q (n - node_count p) r k)
  where
    here : (t : Bool) → nat_lt n (node_count p) ≡ t → (n < node_count p → cost (put p n r) + cost (at p n) ≡ cost p + cost r) → (n - node_count p < node_count q → cost (put q (n - node_count p) r) + cost (at q (n - node_count p)) ≡ cost q + cost r) →
        cost (if t then inner_join a b (put p n r) q else inner_join a b p (put q (n - node_count p) r)) + cost (if t then at p n else at q (n - node_count p)) ≡ 6 + (cost p + cost q) + cost r
    here true e l g = let lt : n < node_count p = grind (arith, common_steps) in let ih = l lt in omega (arith, ih)
    here false e l g = let ge : node_count p ≤ n = grind (arith, common_steps) in let ih = g (omega (arith, ge, h)) in omega (arith, ih)
put_cost (left_join a b p q) zero r h = omega arith
put_cost (left_join a b p q) (suc n) r h = here (nat_lt n (node_count p)) refl (λ k. put_cost p n r k) (λ k. put_cost q (n - node_count p) r k)
  where
    here : (t : Bool) → nat_lt n (node_count p) ≡ t → (n < node_count p → cost (put p n r) + cost (at p n) ≡ cost p + cost r) → (n - node_count p < node_count q → cost (put q (n - node_count p) r) + cost (at q (n - node_count p)) ≡ cost q + cost r) →
        cost (if t then left_join a b (put p n r) q else left_join a b p (put q (n - node_count p) r)) + cost (if t then at p n else at q (n - node_count p)) ≡ 7 + (cost p + cost q) + cost r
    here true e l g = let lt : n < node_count p = grind (arith, common_steps) in let ih = l lt in omega (arith, ih)
    here false e l g = let ge : node_count p ≤ n = grind (arith, common_steps) in let ih = g (omega (arith, ge, h)) in omega (arith, ih)
put_cost (in_sub a p q) zero r h = omega arith
put_cost (in_sub a p q) (suc n) r h = here (nat_lt n (node_count p)) refl (λ k. put_cost p n r k) (λ k. put_cost q (n - node_count p) r k)
  where
    here : (t : Bool) → nat_lt n (node_count p) ≡ t → (n < node_count p → cost (put p n r) + cost (at p n) ≡ cost p + cost r) → (n - node_count p < node_count q → cost (put q (n - node_count p) r) + cost (at q (n - node_count p)) ≡ cost q + cost r) →
        cost (if t then in_sub a (put p n r) q else in_sub a p (put q (n - node_count p) r)) + cost (if t then at p n else at q (n - node_count p)) ≡ 4 + (cost p + cost q) + cost r
    here true e l g = let lt : n < node_count p = grind (arith, common_steps) in let ih = l lt in omega (arith, ih)
    here false e l g = let ge : node_count p ≤ n = grind (arith, common_steps) in let ih = g (omega (arith, ge, h)) in omega (arith, ih)
put_cost (dedup p) zero r h = omega arith
put_cost (dedup p) (suc n) r h = let ih = put_cost p n r (omega (arith, h)) in omega (arith, ih)

-- a match lowers the cost, where the destination's leaves cost no more than the source's
pub cost_falls : (A : List ℕ) (m : Assigned) (s d : SideTree) (p : PlanTree) (n : ℕ) → n < node_count p → fill s A m ≡ at p n → weight_of d < weight_of s → total (λ r. cost (leaf_plan m r)) (leaves_of d) ≤ total (λ r. cost (leaf_plan m r)) (leaves_of s) →
    cost (put p n (fill d A m)) < cost p
cost_falls A m s d p n lt e w l =
    let one = fill_cost A m s in
    let two = fill_cost A m d in
    let here : cost (fill s A m) ≡ cost (at p n) = ap cost e in
    let all = put_cost p n (fill d A m) lt in
    omega (arith, one, two, here, all, w, l)
