-- Placing keeps what a plan costs and how many nodes it has.
use Rattle.std.proofs.Common.{◌≡◌, ℕ, ◌+◌, ◌-◌, Bool, true, false, ◌&&◌, not, List, [], ◌∷◌, ◌++◌, map, filter, refl, sym, ap, ◌∙◌, arith}
use Rattle.wt_bag.specs.Bags.{total, only}
use Rattle.wt_bag.proofs.TotalLaws.{total-append, total-map, total-filter, total-add, total_ext}
use Rattle.wt_plan.specs.Tree.{PlanTree, table, proj, filtered, inner_join, left_join, in_sub, dedup}
use Rattle.wt_plan.specs.Measures.{width, cost, node_count}
use Rattle.wt_place.specs.Placing.{Condition, test, member, moved, put, stand, in_left, in_right, in_both, settle, conditions, bare, placed}

-- the sum of weights of the nodes: of a table, a Proj, a Filter, an InnerJoin, a LeftJoin, an InSub, a Dedup
module _ (wt wp wf wi wl ws wd : ℕ) where
  abbrev pub weight : PlanTree → ℕ
  weight (table n w) = wt
  weight (proj cols p) = wp + weight p
  weight (filtered q cols p) = wf + weight p
  weight (inner_join a b l r) = wi + (weight l + weight r)
  weight (left_join a b l r) = wl + (weight l + weight r)
  weight (in_sub cols l r) = ws + (weight l + weight r)
  weight (dedup p) = wd + weight p

  abbrev pub alone : Condition → ℕ
  alone (test q cols) = wf
  alone (member cols r) = ws + weight r

  abbrev pub all_alone : List Condition → ℕ
  all_alone cs = total alone cs

  weight_put : (c : Condition) (p : PlanTree) → weight (put c p) ≡ alone c + weight p
  weight_put (test q cols) p = refl
  weight_put (member cols r) p = omega arith

  weight_stand : (cs : List Condition) (p : PlanTree) → weight (stand cs p) ≡ all_alone cs + weight p
  weight_stand [] p = omega arith
  weight_stand (c ∷ cs) p = omega (arith, weight_stand cs (put c p), weight_put c p)

  alone_moved : (f : ℕ → ℕ) (c : Condition) → alone (moved f c) ≡ alone c
  alone_moved f (test q cols) = refl
  alone_moved f (member cols r) = refl

  all_moved : (f : ℕ → ℕ) (cs : List Condition) → all_alone (map (moved f) cs) ≡ all_alone cs
  all_moved f cs = total-map alone (moved f) cs ∙ total_ext (λ c. alone (moved f c)) alone cs (alone_moved f)

  -- the conditions of a join, by where they stand
  two_parts : (p : Condition → Bool) (cs : List Condition) → all_alone (filter p cs) + all_alone (filter (λ c. not (p c)) cs) ≡ all_alone cs
  two_parts p cs =
      (λ i. total-filter alone p cs i + total-filter alone (λ c. not (p c)) cs i)
      ∙ sym (total-add (λ c. only (p c) (alone c)) (λ c. only (not (p c)) (alone c)) cs)
      ∙ total_ext (λ c. only (p c) (alone c) + only (not (p c)) (alone c)) alone cs (λ c. one (p c) (alone c))
    where
      one : (b : Bool) (n : ℕ) → only b n + only (not b) n ≡ n
      one true n = omega arith
      one false n = omega arith

  three_parts : (l r : Condition → Bool) (cs : List Condition)
      → all_alone (filter l cs) + (all_alone (filter (λ c. not (l c) && r c) cs) + all_alone (filter (λ c. not (l c) && not (r c)) cs)) ≡ all_alone cs
  three_parts l r cs =
      (λ i. total-filter alone l cs i + (total-filter alone (λ c. not (l c) && r c) cs i + total-filter alone (λ c. not (l c) && not (r c)) cs i))
      ∙ ap (λ n. total (λ c. only (l c) (alone c)) cs + n) (sym (total-add (λ c. only (not (l c) && r c) (alone c)) (λ c. only (not (l c) && not (r c)) (alone c)) cs))
      ∙ sym (total-add (λ c. only (l c) (alone c)) (λ c. only (not (l c) && r c) (alone c) + only (not (l c) && not (r c)) (alone c)) cs)
      ∙ total_ext (λ c. only (l c) (alone c) + (only (not (l c) && r c) (alone c) + only (not (l c) && not (r c)) (alone c))) alone cs (λ c. one (l c) (r c) (alone c))
    where
      one : (b c : Bool) (n : ℕ) → only b n + (only (not b && c) n + only (not b && not c) n) ≡ n
      one true c n = omega arith
      one false true n = omega arith
      one false false n = omega arith

  weight_settle : (cs : List Condition) (p : PlanTree) → weight (settle cs p) ≡ all_alone cs + weight p
  weight_settle cs (table n w) = weight_stand cs (table n w)
  weight_settle cs (proj cols p) = weight_stand cs (proj cols p)
  weight_settle cs (dedup p) = weight_stand cs (dedup p)
  weight_settle cs (filtered q cols p) = weight_stand cs (filtered q cols p)
  weight_settle cs (in_sub cols l r) = weight_stand cs (in_sub cols l r)
  weight_settle cs (inner_join a b l r) =
      let n = width l in
      let ls = filter (in_left n) cs in
      let up = filter (in_right n) cs in
      let rs = map (moved (λ k. k - n)) up in
      let bs = filter (in_both n) cs in
      let parts : all_alone ls + (all_alone up + all_alone bs) ≡ all_alone cs = three_parts (in_left n) (λ c. Rattle.std.specs.List.list_all (λ k. not (Rattle.std.specs.Prelude.nat_lt k n)) (Rattle.wt_place.specs.Placing.over c)) cs in
      let same : all_alone rs ≡ all_alone up = all_moved (λ k. k - n) up in
      let left : weight (settle ls l) ≡ all_alone ls + weight l = weight_settle ls l in
      let right : weight (settle rs r) ≡ all_alone rs + weight r = weight_settle rs r in
      let above : weight (stand bs (inner_join a b (settle ls l) (settle rs r))) ≡ all_alone bs + (wi + (weight (settle ls l) + weight (settle rs r))) = weight_stand bs (inner_join a b (settle ls l) (settle rs r)) in
      omega (arith, parts, same, left, right, above)
  weight_settle cs (left_join a b l r) =
      let n = width l in
      let ls = filter (in_left n) cs in
      let bs = filter (λ c. not (in_left n c)) cs in
      let parts : all_alone ls + all_alone bs ≡ all_alone cs = two_parts (in_left n) cs in
      let left : weight (settle ls l) ≡ all_alone ls + weight l = weight_settle ls l in
      let above : weight (stand bs (left_join a b (settle ls l) r)) ≡ all_alone bs + (wl + (weight (settle ls l) + weight r)) = weight_stand bs (left_join a b (settle ls l) r) in
      omega (arith, parts, left, above)

  weight_bare : (p : PlanTree) → all_alone (conditions p) + weight (bare p) ≡ weight p
  weight_bare (table n w) = omega arith
  weight_bare (proj cols p) = omega (arith, weight_settle (conditions p) (bare p), weight_bare p)
  weight_bare (dedup p) = omega (arith, weight_settle (conditions p) (bare p), weight_bare p)
  weight_bare (filtered q cols p) = omega (arith, total-append alone (conditions p) (test q cols ∷ []), weight_bare p)
  weight_bare (in_sub cols l r) =
      omega (arith, total-append alone (conditions l) (member cols (settle (conditions r) (bare r)) ∷ []), weight_bare l, weight_settle (conditions r) (bare r), weight_bare r)
  weight_bare (inner_join a b l r) =
      omega (arith, total-append alone (conditions l) (map (moved (λ k. width l + k)) (conditions r)), all_moved (λ k. width l + k) (conditions r), weight_bare l, weight_bare r)
  weight_bare (left_join a b l r) = omega (arith, weight_bare l, weight_settle (conditions r) (bare r), weight_bare r)

  pub weight_placed : (p : PlanTree) → weight (placed p) ≡ weight p
  weight_placed p = omega (arith, weight_settle (conditions p) (bare p), weight_bare p)

cost_is : (p : PlanTree) → cost p ≡ weight 1 1 1 6 7 4 3 p
cost_is (table n w) = refl
cost_is (proj cols p) = omega (arith, cost_is p)
cost_is (filtered q cols p) = omega (arith, cost_is p)
cost_is (inner_join a b l r) = omega (arith, cost_is l, cost_is r)
cost_is (left_join a b l r) = omega (arith, cost_is l, cost_is r)
cost_is (in_sub cols l r) = omega (arith, cost_is l, cost_is r)
cost_is (dedup p) = omega (arith, cost_is p)

nodes_are : (p : PlanTree) → node_count p ≡ weight 1 1 1 1 1 1 1 p
nodes_are (table n w) = refl
nodes_are (proj cols p) = omega (arith, nodes_are p)
nodes_are (filtered q cols p) = omega (arith, nodes_are p)
nodes_are (inner_join a b l r) = omega (arith, nodes_are l, nodes_are r)
nodes_are (left_join a b l r) = omega (arith, nodes_are l, nodes_are r)
nodes_are (in_sub cols l r) = omega (arith, nodes_are l, nodes_are r)
nodes_are (dedup p) = omega (arith, nodes_are p)

pub cost_kept : (p : PlanTree) → cost (placed p) ≡ cost p
cost_kept p = cost_is (placed p) ∙ weight_placed 1 1 1 6 7 4 3 p ∙ sym (cost_is p)

pub nodes_kept : (p : PlanTree) → node_count (placed p) ≡ node_count p
nodes_kept p = nodes_are (placed p) ∙ weight_placed 1 1 1 1 1 1 1 p ∙ sym (nodes_are p)
