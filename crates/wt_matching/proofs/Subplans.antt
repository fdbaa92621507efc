-- What holds of a plan's subplans, and of a subplan that was put in.
use Rattle.std.proofs.Common.{◌≡◌, ℕ, zero, suc, ◌-◌, ◌<◌, ◌≤◌, Bool, true, false, List, refl, arith}
use Rattle.std.specs.Prelude.{nat_lt, if◌then◌else◌}
use Rattle.std.proofs.lemmas.Grind.{common_steps}
use Rattle.wt_schema.specs.declared.schema.Table.{Table}
use Rattle.wt_pred.specs.Tree.{PredTree}
use Rattle.wt_plan.specs.Tree.{PlanTree, table, proj, filtered, inner_join, left_join, in_sub, dedup}
use Rattle.wt_plan.specs.Measures.{node_count}
use Rattle.wt_plan.specs.WellFormed.{PlacesFit, Narrow}
use Rattle.wt_known.specs.Fitting.{Fits}
use Rattle.wt_matching.specs.Nodes.{at, put}

-- what each operand has where the plan has it
record IsInherited (P : PlanTree → Type 0) : Type 0 where
  proj : (l : List ℕ) (p : PlanTree) → P (proj l p) → P p
  filtered : (f : PredTree) (l : List ℕ) (p : PlanTree) → P (filtered f l p) → P p
  inner_join : (a b : List ℕ) (p q : PlanTree) → P (inner_join a b p q) → P p × P q
  left_join : (a b : List ℕ) (p q : PlanTree) → P (left_join a b p q) → P p × P q
  in_sub : (a : List ℕ) (p q : PlanTree) → P (in_sub a p q) → P p × P q
  dedup : (p : PlanTree) → P (dedup p) → P p

module _ (P : PlanTree → Type 0) (inherited : IsInherited P) where
  one_of : (t : Bool) (p q : PlanTree) → P p → P q → P (if t then p else q)
  one_of true p q h k = h
  one_of false p q h k = k

  at_has : (p : PlanTree) (n : ℕ) → P p → P (at p n)
  at_has p zero h = h
  at_has (table t w) (suc n) h = h
  at_has (proj l p) (suc n) h = at_has p n (inherited.proj l p h)
  at_has (filtered f l p) (suc n) h = at_has p n (inherited.filtered f l p h)
  at_has (inner_join a b p q) (suc n) h = let k = inherited.inner_join a b p q h in one_of (nat_lt n (node_count p)) _ _ (at_has p n k.0) (at_has q (n - node_count p) k.1)
  at_has (left_join a b p q) (suc n) h = let k = inherited.left_join a b p q h in one_of (nat_lt n (node_count p)) _ _ (at_has p n k.0) (at_has q (n - node_count p) k.1)
  at_has (in_sub a p q) (suc n) h = let k = inherited.in_sub a p q h in one_of (nat_lt n (node_count p)) _ _ (at_has p n k.0) (at_has q (n - node_count p) k.1)
  at_has (dedup p) (suc n) h = at_has p n (inherited.dedup p h)

  -- a subplan that was put into one of two operands, from the whole
  put_in_one : (t : Bool) (n k : ℕ) (p q r s : PlanTree) → nat_lt n k ≡ t → (n < k → P p → P s) → (k ≤ n → P q → P s) → (node : PlanTree → PlanTree → PlanTree) (old : PlanTree) →
      ((x y : PlanTree) → P (node x y) → P x × P y) → P (if t then node p r else node old q) → P s
  put_in_one true n k p q r s e f g node old parts h = f (grind (arith, common_steps)) (parts p r h).0
  put_in_one false n k p q r s e f g node old parts h = g (grind (arith, common_steps)) (parts old q h).1

  put_has : (p : PlanTree) (n : ℕ) (r : PlanTree) → n < node_count p → P (put p n r) → P r
  put_has p zero r lt h = h
  put_has (table t w) (suc n) r lt h = absurd (omega (arith, lt))
  put_has (proj l p) (suc n) r lt h = put_has p n r (omega (arith, lt)) (inherited.proj l _ h)
  put_has (filtered f l p) (suc n) r lt h = put_has p n r (omega (arith, lt)) (inherited.filtered f l _ h)
  put_has (inner_join a b p q) (suc n) r lt h =
      put_in_one (nat_lt n (node_count p)) n (node_count p) (put p n r) (put q (n - node_count p) r) q r refl (λ l k. put_has p n r l k) (λ l k. put_has q (n - node_count p) r (omega (arith, lt, l)) k)
      (inner_join a b) p (inherited.inner_join a b) h
  put_has (left_join a b p q) (suc n) r lt h =
      put_in_one (nat_lt n (node_count p)) n (node_count p) (put p n r) (put q (n - node_count p) r) q r refl (λ l k. put_has p n r l k) (λ l k. put_has q (n - node_count p) r (omega (arith, lt, l)) k)
      (left_join a b) p (inherited.left_join a b) h
  put_has (in_sub a p q) (suc n) r lt h =
      put_in_one (nat_lt n (node_count p)) n (node_count p) (put p n r) (put q (n - node_count p) r) q r refl (λ l k. put_has p n r l k) (λ l k. put_has q (n - node_count p) r (omega (arith, lt, l)) k)
      (in_sub a) p (inherited.in_sub a) h
  put_has (dedup p) (suc n) r lt h = put_has p n r (omega (arith, lt)) (inherited.dedup _ h)

fits_inherited : (S : List Table) → IsInherited (Fits S)
fits_inherited S = record {
  proj = λ l p h. h.2;
  filtered = λ f l p h. h.1;
  inner_join = λ a b p q h. (h.2, h.3);
  left_join = λ a b p q h. (h.2, h.3);
  in_sub = λ a p q h. (h.1, h.2);
  dedup = λ p h. h;
}

places_inherited : IsInherited PlacesFit
places_inherited = record {
  proj = λ l p h. h.1;
  filtered = λ f l p h. h.2;
  inner_join = λ a b p q h. (h.1, h.2);
  left_join = λ a b p q h. (h.1, h.2);
  in_sub = λ a p q h. (h.2, h.3);
  dedup = λ p h. h;
}

narrow_inherited : IsInherited Narrow
narrow_inherited = record {
  proj = λ l p h. h.1;
  filtered = λ f l p h. h;
  inner_join = λ a b p q h. (h.1, h.2);
  left_join = λ a b p q h. (h.1, h.2);
  in_sub = λ a p q h. (h.0, h.1);
  dedup = λ p h. h;
}

pub fits_at : (S : List Table) (p : PlanTree) (n : ℕ) → Fits S p → Fits S (at p n)
fits_at S = at_has (Fits S) (fits_inherited S)

pub places_at : (p : PlanTree) (n : ℕ) → PlacesFit p → PlacesFit (at p n)
places_at = at_has PlacesFit places_inherited

pub places_put : (p : PlanTree) (n : ℕ) (r : PlanTree) → n < node_count p → PlacesFit (put p n r) → PlacesFit r
places_put = put_has PlacesFit places_inherited

pub narrow_at : (p : PlanTree) (n : ℕ) → Narrow p → Narrow (at p n)
narrow_at = at_has Narrow narrow_inherited

pub narrow_put : (p : PlanTree) (n : ℕ) (r : PlanTree) → n < node_count p → Narrow (put p n r) → Narrow r
narrow_put = put_has Narrow narrow_inherited
