-- Nodes of a subplan are nodes of the plan.
use Rattle.std.proofs.Common.{◌≡◌, ℕ, zero, suc, ◌+◌, ◌-◌, ◌<◌, ◌≤◌, Bool, true, false, List, refl, sym, ap, ◌∙◌, subst, arith}
use Rattle.std.specs.Prelude.{nat_lt, if◌then◌else◌}
use Rattle.std.proofs.lemmas.Grind.{common_steps}
use Rattle.wt_plan.specs.Tree.{PlanTree, table, proj, filtered, inner_join, left_join, in_sub, dedup}
use Rattle.wt_plan.specs.Measures.{node_count, cost}
use Rattle.wt_matching.specs.Nodes.{at}

-- a node of two operands, from what holds in each
in_one : (p q : PlanTree) (n : ℕ) → n < node_count p + node_count q →
    (n < node_count p → n + node_count (at p n) ≤ node_count p) → (n - node_count p < node_count q → (n - node_count p) + node_count (at q (n - node_count p)) ≤ node_count q) →
    suc n + node_count (if nat_lt n (node_count p) then at p n else at q (n - node_count p)) ≤ 1 + (node_count p + node_count q)
in_one p q n h f g = here (nat_lt n (node_count p)) refl
  where
    here : (b : Bool) → nat_lt n (node_count p) ≡ b → suc n + node_count (if b then at p n else at q (n - node_count p)) ≤ 1 + (node_count p + node_count q)
    here true e = let lt : n < node_count p = grind (arith, common_steps) in let k = f lt in omega (arith, k)
    here false e = let ge : node_count p ≤ n = grind (arith, common_steps) in let k = g (omega (arith, ge, h)) in omega (arith, k, ge)

-- a subplan ends within its plan
pub at_room : (p : PlanTree) (n : ℕ) → n < node_count p → n + node_count (at p n) ≤ node_count p
at_room p zero h = omega arith
at_room (table t w) (suc n) h = absurd (omega (arith, h))
at_room (proj l p) (suc n) h = let ih = at_room p n (omega (arith, h)) in omega (arith, ih)
at_room (filtered f l p) (suc n) h = let ih = at_room p n (omega (arith, h)) in omega (arith, ih)
at_room (inner_join a b p q) (suc n) h = in_one p q n (omega (arith, h)) (at_room p n) (at_room q (n - node_count p))
at_room (left_join a b p q) (suc n) h = in_one p q n (omega (arith, h)) (at_room p n) (at_room q (n - node_count p))
at_room (in_sub a p q) (suc n) h = in_one p q n (omega (arith, h)) (at_room p n) (at_room q (n - node_count p))
at_room (dedup p) (suc n) h = let ih = at_room p n (omega (arith, h)) in omega (arith, ih)

-- the node of a node of two operands
pub of_two : PlanTree → PlanTree → ℕ → PlanTree
of_two p q n = if nat_lt n (node_count p) then at p n else at q (n - node_count p)

of_two_left : (p q : PlanTree) (n : ℕ) → n < node_count p → of_two p q n ≡ at p n
unfolding of_two
of_two_left p q n h = ap (λ (b : Bool). if b then at p n else at q (n - node_count p)) (yes n (node_count p) h)
  where
    yes : (n k : ℕ) → n < k → nat_lt n k ≡ true
    yes n k h = grind (arith, common_steps)

of_two_right : (p q : PlanTree) (n : ℕ) → node_count p ≤ n → of_two p q n ≡ at q (n - node_count p)
unfolding of_two
of_two_right p q n h = ap (λ (b : Bool). if b then at p n else at q (n - node_count p)) (no n (node_count p) h)
  where
    no : (n k : ℕ) → k ≤ n → nat_lt n k ≡ false
    no n k h = grind (arith, common_steps)

more_in_one : (p q : PlanTree) (n k : ℕ) → n < node_count p + node_count q → k < node_count (of_two p q n) →
    (n < node_count p → k < node_count (at p n) → at p (n + k) ≡ at (at p n) k) →
    (n - node_count p < node_count q → k < node_count (at q (n - node_count p)) → at q ((n - node_count p) + k) ≡ at (at q (n - node_count p)) k) →
    of_two p q (n + k) ≡ at (of_two p q n) k
more_in_one p q n k h lt f g = here (nat_lt n (node_count p)) refl
  where
    here : (b : Bool) → nat_lt n (node_count p) ≡ b → of_two p q (n + k) ≡ at (of_two p q n) k
    here true e =
        let l : n < node_count p = grind (arith, common_steps) in
        let same = of_two_left p q n l in
        let inside : k < node_count (at p n) = subst (λ z. k < node_count z) same lt in
        let room = at_room p n l in
        of_two_left p q (n + k) (omega (arith, room, inside)) ∙ (f l inside ∙ ap (λ z. at z k) (sym same))
    here false e =
        let l : node_count p ≤ n = grind (arith, common_steps) in
        let same = of_two_right p q n l in
        let inside : k < node_count (at q (n - node_count p)) = subst (λ z. k < node_count z) same lt in
        let moved : (n + k) - node_count p ≡ (n - node_count p) + k = omega (arith, l) in
        of_two_right p q (n + k) (omega (arith, l)) ∙ (ap (at q) moved ∙ (g (omega (arith, l, h)) inside ∙ ap (λ z. at z k) (sym same)))

moved : (n k : ℕ) → suc n + k ≡ suc (n + k)
moved n k = omega arith

-- a node of a subplan
pub at_more : (p : PlanTree) (n k : ℕ) → n < node_count p → k < node_count (at p n) → at p (n + k) ≡ at (at p n) k
unfolding of_two
at_more p zero k h g = ap (at p) (from_zero k)
  where
    from_zero : (k : ℕ) → 0 + k ≡ k
    from_zero k = omega arith
at_more (table t w) (suc n) k h g = absurd (omega (arith, h))
at_more (proj l p) (suc n) k h g = ap (at (proj l p)) (moved n k) ∙ at_more p n k (omega (arith, h)) g
at_more (filtered f l p) (suc n) k h g = ap (at (filtered f l p)) (moved n k) ∙ at_more p n k (omega (arith, h)) g
at_more (inner_join a b p q) (suc n) k h g = ap (at (inner_join a b p q)) (moved n k) ∙ more_in_one p q n k (omega (arith, h)) g (at_more p n k) (at_more q (n - node_count p) k)
at_more (left_join a b p q) (suc n) k h g = ap (at (left_join a b p q)) (moved n k) ∙ more_in_one p q n k (omega (arith, h)) g (at_more p n k) (at_more q (n - node_count p) k)
at_more (in_sub a p q) (suc n) k h g = ap (at (in_sub a p q)) (moved n k) ∙ more_in_one p q n k (omega (arith, h)) g (at_more p n k) (at_more q (n - node_count p) k)
at_more (dedup p) (suc n) k h g = ap (at (dedup p)) (moved n k) ∙ at_more p n k (omega (arith, h)) g

-- a plan has at most as many nodes as it costs
pub few_nodes : (p : PlanTree) → node_count p ≤ cost p
few_nodes (table t w) = omega arith
few_nodes (proj l p) = let ih = few_nodes p in omega (arith, ih)
few_nodes (filtered f l p) = let ih = few_nodes p in omega (arith, ih)
few_nodes (inner_join a b p q) = let l = few_nodes p in let r = few_nodes q in omega (arith, l, r)
few_nodes (left_join a b p q) = let l = few_nodes p in let r = few_nodes q in omega (arith, l, r)
few_nodes (in_sub a p q) = let l = few_nodes p in let r = few_nodes q in omega (arith, l, r)
few_nodes (dedup p) = let ih = few_nodes p in omega (arith, ih)

pub some_node : (p : PlanTree) → 0 < node_count p
some_node (table t w) = omega arith
some_node (proj l p) = omega arith
some_node (filtered f l p) = omega arith
some_node (inner_join a b p q) = omega arith
some_node (left_join a b p q) = omega arith
some_node (in_sub a p q) = omega arith
some_node (dedup p) = omega arith

-- the right one of two operands
pub right_at : (p q : PlanTree) → of_two p q (node_count p) ≡ q
unfolding of_two
right_at p q = of_two_right p q (node_count p) (omega arith) ∙ ap (at q) (nothing_left (node_count p))
  where
    nothing_left : (k : ℕ) → k - k ≡ 0
    nothing_left k = omega arith

-- a node's only operand, and the first of two
pub one_below : (plan : PlanTree) (n : ℕ) (sub p : PlanTree) → n < node_count plan → sub ≡ at plan n → 1 < node_count sub → at sub 1 ≡ p → p ≡ at plan (n + 1)
one_below plan n sub p lt e more h = sym h ∙ (ap (λ z. at z 1) e ∙ sym (at_more plan n 1 lt (subst (λ z. 1 < node_count z) e more)))

pub room_below : (plan : PlanTree) (n : ℕ) (sub : PlanTree) → n < node_count plan → sub ≡ at plan n → n + node_count sub ≤ node_count plan
room_below plan n sub lt e = subst (λ z. n + node_count z ≤ node_count plan) (sym e) (at_room plan n lt)

pub two_below : (plan : PlanTree) (n c : ℕ) (sub q : PlanTree) → n < node_count plan → sub ≡ at plan n → 1 + c < node_count sub → at sub (1 + c) ≡ q → q ≡ at plan ((n + 1) + c)
two_below plan n c sub q lt e more h =
    sym h ∙ (ap (λ z. at z (1 + c)) e ∙ (sym (at_more plan n (1 + c) lt (subst (λ z. 1 + c < node_count z) e more)) ∙ ap (at plan) (grouped n c)))
  where
    grouped : (n c : ℕ) → n + (1 + c) ≡ (n + 1) + c
    grouped n c = omega arith

-- where the operands of a node of two stand
pub two_operands : (whole p q : PlanTree) → ((n : ℕ) → at whole (suc n) ≡ of_two p q n) → (at whole 1 ≡ p) × (at whole (1 + node_count p) ≡ q)
two_operands whole p q h = (h 0 ∙ of_two_left p q 0 (some_node p), ap (at whole) (next (node_count p)) ∙ (h (node_count p) ∙ right_at p q))
  where
    next : (k : ℕ) → 1 + k ≡ suc k
    next k = omega arith

abbrev pub HasTwo : PlanTree → PlanTree → PlanTree → Type 0
HasTwo whole p q = (node_count whole ≡ 1 + (node_count p + node_count q)) × (at whole 1 ≡ p) × (at whole (1 + node_count p) ≡ q)

pub inner_operands : (a b : List ℕ) (p q : PlanTree) → HasTwo (inner_join a b p q) p q
unfolding of_two
inner_operands a b p q = let both = two_operands (inner_join a b p q) p q (λ n. refl) in (refl, both.0, both.1)

pub left_operands : (a b : List ℕ) (p q : PlanTree) → HasTwo (left_join a b p q) p q
unfolding of_two
left_operands a b p q = let both = two_operands (left_join a b p q) p q (λ n. refl) in (refl, both.0, both.1)

pub in_operands : (a : List ℕ) (p q : PlanTree) → HasTwo (in_sub a p q) p q
unfolding of_two
in_operands a p q = let both = two_operands (in_sub a p q) p q (λ n. refl) in (refl, both.0, both.1)

pub moved_operands : (whole p q whole' p' q' : PlanTree) → whole ≡ whole' → p ≡ p' → q ≡ q' → HasTwo whole' p' q' → HasTwo whole p q
moved_operands whole p q whole' p' q' e f g h = subst (λ z. HasTwo z p q) (sym e) (subst (λ z. HasTwo whole' z q) (sym f) (subst (λ z. HasTwo whole' p' z) (sym g) h))
