-- Placing keeps nodes narrow: no node is wider than it was.
use Rattle.std.proofs.Common.{◌≡◌, ℕ, ◌+◌, ◌-◌, ◌<◌, ◌^◌, not, List, [], ◌∷◌, ◌++◌, map, filter, length, refl, sym, ap, subst, ◌∙◌, arith}
use Rattle.wt_bag.specs.Bags.{Each}
use Rattle.wt_bag.proofs.EachLaws.{each_append, each_map, each_filter, each_implies}
use Rattle.wt_plan.specs.Tree.{PlanTree, table, proj, filtered, inner_join, left_join, in_sub, dedup}
use Rattle.wt_plan.specs.Measures.{width}
use Rattle.wt_plan.specs.WellFormed.{Narrow}
use Rattle.wt_place.specs.Placing.{Condition, test, member, moved, put, stand, in_left, in_right, in_both, settle, conditions, bare, placed}
use Rattle.wt_place.proofs.PlaceLaw.{width_settle, width_bare}

abbrev pub NarrowCondition : Condition → Type 0
NarrowCondition (test q cols) = Unit {0}
NarrowCondition (member cols r) = Narrow r

narrow_moved : (f : ℕ → ℕ) (c : Condition) → NarrowCondition c → NarrowCondition (moved f c)
narrow_moved f (test q cols) h = tt
narrow_moved f (member cols r) h = h

all_narrow_moved : (f : ℕ → ℕ) (cs : List Condition) → Each NarrowCondition cs → Each NarrowCondition (map (moved f) cs)
all_narrow_moved f cs h = each_map NarrowCondition (moved f) cs (each_implies NarrowCondition (λ c. NarrowCondition (moved f c)) cs (narrow_moved f) h)

narrow_stand : (cs : List Condition) (p : PlanTree) → Each NarrowCondition cs → Narrow p → Narrow (stand cs p)
narrow_stand [] p h n = n
narrow_stand (test q cols ∷ cs) p h n = narrow_stand cs (filtered q cols p) h.1 n
narrow_stand (member cols r ∷ cs) p h n = narrow_stand cs (in_sub cols p r) h.1 (n, h.0)

narrow_settle : (cs : List Condition) (p : PlanTree) → Each NarrowCondition cs → Narrow p → Narrow (settle cs p)
narrow_settle cs (table n w) h k = narrow_stand cs (table n w) h k
narrow_settle cs (proj cols p) h k = narrow_stand cs (proj cols p) h k
narrow_settle cs (dedup p) h k = narrow_stand cs (dedup p) h k
narrow_settle cs (filtered q cols p) h k = narrow_stand cs (filtered q cols p) h k
narrow_settle cs (in_sub cols l r) h k = narrow_stand cs (in_sub cols l r) h k
narrow_settle cs (inner_join a b l r) h k =
    let n = width l in
    let ls = filter (in_left n) cs in
    let rs = map (moved (λ k. k - n)) (filter (in_right n) cs) in
    narrow_stand (filter (in_both n) cs) (inner_join a b (settle ls l) (settle rs r)) (each_filter NarrowCondition (in_both n) cs h) (
      subst (λ m. m < 2 ^ 32) (λ i. sym (width_settle ls l) i + sym (width_settle rs r) i) k.0,
      narrow_settle ls l (each_filter NarrowCondition (in_left n) cs h) k.1,
      narrow_settle rs r (all_narrow_moved (λ k. k - n) (filter (in_right n) cs) (each_filter NarrowCondition (in_right n) cs h)) k.2,
    )
narrow_settle cs (left_join a b l r) h k =
    let n = width l in
    let ls = filter (in_left n) cs in
    let bs = filter (λ c. not (in_left n c)) cs in
    narrow_stand bs (left_join a b (settle ls l) r) (each_filter NarrowCondition (λ c. not (in_left n c)) cs h)
    (subst (λ m. m < 2 ^ 32) (λ i. sym (width_settle ls l) i + width r) k.0, narrow_settle ls l (each_filter NarrowCondition (in_left n) cs h) k.1, k.2)

narrow_both : (p : PlanTree) → Narrow p → Each NarrowCondition (conditions p) × Narrow (bare p)
narrow_both (table n w) k = (tt, k)
narrow_both (proj cols p) k = let b = narrow_both p k.1 in (tt, (k.0, narrow_settle (conditions p) (bare p) b.0 b.1))
narrow_both (dedup p) k = let b = narrow_both p k in (tt, narrow_settle (conditions p) (bare p) b.0 b.1)
narrow_both (filtered q cols p) k = let b = narrow_both p k in (each_append NarrowCondition (conditions p) (test q cols ∷ []) b.0 (tt, tt), b.1)
narrow_both (in_sub cols l r) k =
    let b = narrow_both l k.0 in
    let d = narrow_both r k.1 in
    (each_append NarrowCondition (conditions l) (member cols (settle (conditions r) (bare r)) ∷ []) b.0 (narrow_settle (conditions r) (bare r) d.0 d.1, tt), b.1)
narrow_both (inner_join a b l r) k =
    let c = narrow_both l k.1 in
    let d = narrow_both r k.2 in (
      each_append NarrowCondition (conditions l) (map (moved (λ k. width l + k)) (conditions r)) c.0 (all_narrow_moved (λ k. width l + k) (conditions r) d.0),
      (subst (λ m. m < 2 ^ 32) (λ i. sym (width_bare l) i + sym (width_bare r) i) k.0, c.1, d.1),
    )
narrow_both (left_join a b l r) k =
    let c = narrow_both l k.1 in
    let d = narrow_both r k.2 in
    (c.0, (subst (λ m. m < 2 ^ 32) (λ i. sym (width_bare l) i + sym (width_settle (conditions r) (bare r) ∙ width_bare r) i) k.0, c.1, narrow_settle (conditions r) (bare r) d.0 d.1))

pub narrow_bare : (p : PlanTree) → Narrow p → Narrow (bare p)
narrow_bare p k = (narrow_both p k).1

pub narrow_placed : (p : PlanTree) → Narrow p → Narrow (placed p)
narrow_placed p k = let b = narrow_both p k in narrow_settle (conditions p) (bare p) b.0 b.1

pub width_placed : (p : PlanTree) → width (placed p) ≡ width p
width_placed p = width_settle (conditions p) (bare p) ∙ width_bare p
