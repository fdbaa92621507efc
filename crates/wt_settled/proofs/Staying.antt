-- A plan no zone of which has both conditions and joins is placed.
use Rattle.std.proofs.Common.{◌≡◌, ℕ, ◌+◌, Bool, true, false, ◌&&◌, List, [], ◌∷◌, ◌++◌, map, refl, sym, ap, ◌∙◌}
use Rattle.wt_pred.specs.Tree.{PredTree}
use Rattle.wt_plan.specs.Tree.{PlanTree, table, proj, filtered, inner_join, left_join, in_sub, dedup}
use Rattle.wt_plan.specs.Measures.{width}
use Rattle.wt_place.specs.Placing as placing
use Rattle.wt_place.specs.Placing.{test, member, moved, put, stand, settle, conditions, bare, placed}
use Rattle.wt_settled.specs.declared.settled.Above.TheVariants.{Nothing, Condition, Join}
use Rattle.wt_settled.specs.Settled.{is_settled}

first : (a b : Bool) → (a && b) ≡ true → a ≡ true
first true b e = refl
first false b e = absurd cc

second : (a b : Bool) → (a && b) ≡ true → b ≡ true
second true b e = e
second false b e = absurd cc

-- conditions over a plan, one more of them on top
stand_last : (cs : List placing.Condition) (c : placing.Condition) (p : PlanTree) → stand (cs ++ c ∷ []) p ≡ put c (stand cs p)
stand_last [] c p = refl
stand_last (d ∷ cs) c p = stand_last cs c (put d p)

-- nothing is put over a zone where there are no conditions
settle_none : (p : PlanTree) → settle [] p ≡ p
settle_none (table n w) = refl
settle_none (proj cols p) = refl
settle_none (dedup p) = refl
settle_none (filtered q cols p) = refl
settle_none (in_sub cols l r) = refl
settle_none (inner_join a b l r) = λ i. inner_join a b (settle_none l i) (settle_none r i)
settle_none (left_join a b l r) = λ i. left_join a b (settle_none l i) r

-- a zone of joins has no conditions, and is bare; a zone of conditions has them over what is no join
record Joined (p : PlanTree) : Type 0 where
  none : conditions p ≡ []
  itself : bare p ≡ p

record Conditioned (p : PlanTree) : Type 0 where
  over : (cs : List placing.Condition) → settle cs (bare p) ≡ stand cs (bare p)
  itself : stand (conditions p) (bare p) ≡ p

of_joins : (p : PlanTree) → Joined p → placed p ≡ p
of_joins p j = (λ i. settle (j.none i) (j.itself i)) ∙ settle_none p

of_conditions : (p : PlanTree) → Conditioned p → placed p ≡ p
of_conditions p k = k.over (conditions p) ∙ k.itself

filtered_over : (q : PredTree) (cols : List ℕ) (p : PlanTree) → Conditioned p → Conditioned (filtered q cols p)
filtered_over q cols p k = record { over = k.over; itself = stand_last (conditions p) (test q cols) (bare p) ∙ ap (filtered q cols) k.itself }

in_over : (cols : List ℕ) (l r : PlanTree) → Conditioned l → placed r ≡ r → Conditioned (in_sub cols l r)
in_over cols l r k e = record { over = k.over; itself = stand_last (conditions l) (member cols (placed r)) (bare l) ∙ (λ i. in_sub cols (k.itself i) (e i)) }

inner_over : (a b : List ℕ) (l r : PlanTree) → Joined l → Joined r → Joined (inner_join a b l r)
inner_over a b l r j k = record { none = λ i. j.none i ++ map (moved (λ n. width l + n)) (k.none i); itself = λ i. inner_join a b (j.itself i) (k.itself i) }

left_over : (a b : List ℕ) (l r : PlanTree) → Joined l → placed r ≡ r → Joined (left_join a b l r)
left_over a b l r j e = record { none = j.none; itself = λ i. left_join a b (j.itself i) (e i) }

mutual
  joined : (p : PlanTree) → is_settled Join p ≡ true → Joined p
  joined (table n w) e = record { none = refl; itself = refl }
  joined (proj cols p) e = record { none = refl; itself = ap (proj cols) (settled p e) }
  joined (dedup p) e = record { none = refl; itself = ap dedup (settled p e) }
  joined (filtered q cols p) e = absurd cc
  joined (in_sub cols l r) e = absurd cc
  joined (inner_join a b l r) e = inner_over a b l r (joined l (first _ _ e)) (joined r (second _ _ e))
  joined (left_join a b l r) e = left_over a b l r (joined l (first _ _ e)) (settled r (second _ _ e))

  conditioned : (p : PlanTree) → is_settled Condition p ≡ true → Conditioned p
  conditioned (table n w) e = record { over = λ cs. refl; itself = refl }
  conditioned (proj cols p) e = record { over = λ cs. refl; itself = ap (proj cols) (settled p e) }
  conditioned (dedup p) e = record { over = λ cs. refl; itself = ap dedup (settled p e) }
  conditioned (filtered q cols p) e = filtered_over q cols p (conditioned p e)
  conditioned (in_sub cols l r) e = in_over cols l r (conditioned l (first _ _ e)) (settled r (second _ _ e))
  conditioned (inner_join a b l r) e = absurd cc
  conditioned (left_join a b l r) e = absurd cc

  settled : (p : PlanTree) → is_settled Nothing p ≡ true → placed p ≡ p
  settled (table n w) e = refl
  settled (proj cols p) e = ap (proj cols) (settled p e)
  settled (dedup p) e = ap dedup (settled p e)
  settled (filtered q cols p) e = of_conditions (filtered q cols p) (filtered_over q cols p (conditioned p e))
  settled (in_sub cols l r) e = of_conditions (in_sub cols l r) (in_over cols l r (conditioned l (first _ _ e)) (settled r (second _ _ e)))
  settled (inner_join a b l r) e = of_joins (inner_join a b l r) (inner_over a b l r (joined l (first _ _ e)) (joined r (second _ _ e)))
  settled (left_join a b l r) e = of_joins (left_join a b l r) (left_over a b l r (joined l (first _ _ e)) (settled r (second _ _ e)))

pub settled_is_placed : (p : PlanTree) → is_settled Nothing p ≡ true → p ≡ placed p
settled_is_placed p e = sym (settled p e)
