-- The test says whether a plan is regular.
use Rattle.std.proofs.Common.{◌≡◌, ◌↔◌, ℕ, ◌^◌, ◌<◌, ◌≤◌, Bool, true, List, length, Option, Some, None, refl, sym, ap, subst, ◌∙◌, arith}
use Rattle.std.specs.Prelude.{◌&&◌, IsTrue}
use Rattle.wt_schema.specs.declared.schema.Table.{Table}
use Rattle.wt_plan.specs.Tree.{PlanTree, table, proj, filtered, inner_join, left_join, in_sub, dedup}
use Rattle.wt_plan.specs.Measures.{width, cost}
use Rattle.wt_plan.specs.WellFormed.{PlacesFit, Narrow}
use Rattle.wt_plan.specs.Regular.{plan_kinds, kinds_at, RegularFilter, RegularNodes, Regular}
use Rattle.wt_regularity.specs.Widths.{is_narrow, fitting_width}
use Rattle.wt_regularity.specs.Kinds.{all_same}
use Rattle.wt_regularity.specs.Predicates.{filter_fits}
use Rattle.wt_regularity.specs.Deciding.{matched_from, kinds_fit, is_cheap, passes, is_regular}
use Rattle.wt_regularity.proofs.Tests.{both, make, lt_of, lt_test, le_of, le_test}
use Rattle.wt_regularity.proofs.KindLaws.{kinds_sound, kinds_full, matched_sound, matched_full}
use Rattle.wt_regularity.proofs.OrderLaws.{order_within}
use Rattle.wt_regularity.proofs.PredicateLaws.{filter_sound, filter_full}
use Rattle.wt_regularity.proofs.WidthLaws.{Sized, widths_sound, widths_full}

-- the kinds at each node are as regular plans have them, and so is each filter
abbrev pub Kinded : List Table → PlanTree → Type 0
Kinded S (table n w) = Unit {0}
Kinded S (proj cols p) = Kinded S p
Kinded S (filtered pred cols p) = RegularFilter (plan_kinds S p) pred cols × Kinded S p
Kinded S (inner_join a b l r) = (kinds_at (plan_kinds S l) a ≡ kinds_at (plan_kinds S r) b) × Kinded S l × Kinded S r
Kinded S (left_join a b l r) = (kinds_at (plan_kinds S l) a ≡ kinds_at (plan_kinds S r) b) × Kinded S l × Kinded S r
Kinded S (in_sub cols l r) = (kinds_at (plan_kinds S l) cols ≡ plan_kinds S r) × Kinded S l × Kinded S r
Kinded S (dedup p) = Kinded S p

module _ (S : List Table) where
  joined_sound : (a b : List ℕ) (l r : PlanTree) → ((all_same (kinds_at (plan_kinds S l) a) (kinds_at (plan_kinds S r) b) && kinds_fit S l) && kinds_fit S r) ≡ true
      → (kinds_fit S l ≡ true → Kinded S l) → (kinds_fit S r ≡ true → Kinded S r) → (kinds_at (plan_kinds S l) a ≡ kinds_at (plan_kinds S r) b) × Kinded S l × Kinded S r
  joined_sound a b l r e left right =
      let same = all_same (kinds_at (plan_kinds S l) a) (kinds_at (plan_kinds S r) b) in
      let parts = both (same && kinds_fit S l) (kinds_fit S r) e in
      let here = both same (kinds_fit S l) parts.0 in
      (kinds_sound (kinds_at (plan_kinds S l) a) (kinds_at (plan_kinds S r) b) here.0, left here.1, right parts.1)

  joined_full : (a b : List ℕ) (l r : PlanTree) → kinds_at (plan_kinds S l) a ≡ kinds_at (plan_kinds S r) b → kinds_fit S l ≡ true → kinds_fit S r ≡ true
      → ((all_same (kinds_at (plan_kinds S l) a) (kinds_at (plan_kinds S r) b) && kinds_fit S l) && kinds_fit S r) ≡ true
  joined_full a b l r e left right =
      let same = all_same (kinds_at (plan_kinds S l) a) (kinds_at (plan_kinds S r) b) in
      make (same && kinds_fit S l) (kinds_fit S r) (make same (kinds_fit S l) (kinds_full (kinds_at (plan_kinds S l) a) (kinds_at (plan_kinds S r) b) e) left) right

  kinded_sound : (p : PlanTree) → kinds_fit S p ≡ true → Kinded S p
  kinded_sound (table n w) e = tt
  kinded_sound (proj cols p) e = kinded_sound p e
  kinded_sound (filtered pred cols p) e =
      let parts = both (filter_fits (plan_kinds S p) pred cols) (kinds_fit S p) e in
      (filter_sound (plan_kinds S p) pred cols parts.0, kinded_sound p parts.1)
  kinded_sound (inner_join a b l r) e = joined_sound a b l r e (kinded_sound l) (kinded_sound r)
  kinded_sound (left_join a b l r) e = joined_sound a b l r e (kinded_sound l) (kinded_sound r)
  kinded_sound (in_sub cols l r) e =
      let same = matched_from (plan_kinds S l) (plan_kinds S r) 0 cols in
      let parts = both (same && kinds_fit S l) (kinds_fit S r) e in
      let here = both same (kinds_fit S l) parts.0 in
      (matched_sound (plan_kinds S l) (plan_kinds S r) 0 cols here.0, kinded_sound l here.1, kinded_sound r parts.1)
  kinded_sound (dedup p) e = kinded_sound p e

  kinded_full : (p : PlanTree) → Kinded S p → kinds_fit S p ≡ true
  kinded_full (table n w) h = refl
  kinded_full (proj cols p) h = kinded_full p h
  kinded_full (filtered pred cols p) h =
      make (filter_fits (plan_kinds S p) pred cols) (kinds_fit S p) (filter_full (plan_kinds S p) pred cols h.0) (kinded_full p h.1)
  kinded_full (inner_join a b l r) h = joined_full a b l r h.0 (kinded_full l h.1) (kinded_full r h.2)
  kinded_full (left_join a b l r) h = joined_full a b l r h.0 (kinded_full l h.1) (kinded_full r h.2)
  kinded_full (in_sub cols l r) h =
      let same = matched_from (plan_kinds S l) (plan_kinds S r) 0 cols in
      make (same && kinds_fit S l) (kinds_fit S r) (make same (kinds_fit S l) (matched_full (plan_kinds S l) (plan_kinds S r) 0 cols h.0) (kinded_full l h.1)) (kinded_full r h.2)
  kinded_full (dedup p) h = kinded_full p h

  places_of : (p : PlanTree) → Sized S p → Kinded S p → PlacesFit p
  places_of (table n w) h k = tt
  places_of (proj cols p) h k = (h.0, places_of p h.2 k)
  places_of (filtered pred cols p) h k = (h.0, order_within pred (length cols) k.0.in_order, places_of p h.1 k.1)
  places_of (inner_join a b l r) h k = (h.0, places_of l h.2 k.1, places_of r h.3 k.2)
  places_of (left_join a b l r) h k = (h.0, places_of l h.2 k.1, places_of r h.3 k.2)
  places_of (in_sub cols l r) h k = (h.0, h.1, places_of l h.3 k.1, places_of r h.4 k.2)
  places_of (dedup p) h k = places_of p h.1 k

  narrow_of : (p : PlanTree) → Sized S p → Narrow p
  narrow_of (table n w) h = h.2
  narrow_of (proj cols p) h = (below_limit (length cols) h.1, narrow_of p h.2)
    where
      below_limit : (n : ℕ) → n ≤ 16384 → n < 2 ^ 32
      below_limit n l = omega (arith, l)
  narrow_of (filtered pred cols p) h = narrow_of p h.1
  narrow_of (inner_join a b l r) h = (h.1, narrow_of l h.2, narrow_of r h.3)
  narrow_of (left_join a b l r) h = (h.1, narrow_of l h.2, narrow_of r h.3)
  narrow_of (in_sub cols l r) h = (narrow_of l h.3, narrow_of r h.4)
  narrow_of (dedup p) h = narrow_of p h.1

  nodes_of : (p : PlanTree) → Sized S p → Kinded S p → RegularNodes S p
  nodes_of (table n w) h k = (h.0, h.1)
  nodes_of (proj cols p) h k = (h.1, nodes_of p h.2 k)
  nodes_of (filtered pred cols p) h k = (k.0, nodes_of p h.1 k.1)
  nodes_of (inner_join a b l r) h k = (k.0, nodes_of l h.2 k.1, nodes_of r h.3 k.2)
  nodes_of (left_join a b l r) h k = (k.0, nodes_of l h.2 k.1, nodes_of r h.3 k.2)
  nodes_of (in_sub cols l r) h k = (k.0, h.2, nodes_of l h.3 k.1, nodes_of r h.4 k.2)
  nodes_of (dedup p) h k = (h.0, nodes_of p h.1 k)

  sized_of : (p : PlanTree) → PlacesFit p → Narrow p → RegularNodes S p → Sized S p
  sized_of (table n w) f m k = (k.0, k.1, m)
  sized_of (proj cols p) f m k = (f.0, k.0, sized_of p f.1 m.1 k.1)
  sized_of (filtered pred cols p) f m k = (f.0, sized_of p f.2 m k.1)
  sized_of (inner_join a b l r) f m k = (f.0, m.0, sized_of l f.1 m.1 k.1, sized_of r f.2 m.2 k.2)
  sized_of (left_join a b l r) f m k = (f.0, m.0, sized_of l f.1 m.1 k.1, sized_of r f.2 m.2 k.2)
  sized_of (in_sub cols l r) f m k = (f.0, f.1, k.1, sized_of l f.2 m.0 k.2, sized_of r f.3 m.1 k.3)
  sized_of (dedup p) f m k = (k.0, sized_of p f m k.1)

  kinded_of : (p : PlanTree) → RegularNodes S p → Kinded S p
  kinded_of (table n w) k = tt
  kinded_of (proj cols p) k = kinded_of p k.1
  kinded_of (filtered pred cols p) k = (k.0, kinded_of p k.1)
  kinded_of (inner_join a b l r) k = (k.0, kinded_of l k.1, kinded_of r k.2)
  kinded_of (left_join a b l r) k = (k.0, kinded_of l k.1, kinded_of r k.2)
  kinded_of (in_sub cols l r) k = (k.0, kinded_of l k.2, kinded_of r k.3)
  kinded_of (dedup p) k = kinded_of p k.1

  pub regular_sound : (p : PlanTree) → is_regular S p ≡ true → Regular S p
  regular_sound p e = by (fitting_width S p) refl e
    where
      by : (o : Option ℕ) → fitting_width S p ≡ o → passes o (is_cheap p) (kinds_fit S p) ≡ true → Regular S p
      by (Some w) is e =
          let parts = both (is_narrow w && is_cheap p) (kinds_fit S p) e in
          let here = both (is_narrow w) (is_cheap p) parts.0 in
          let sizes = widths_sound S p w is in
          let kinds = kinded_sound p parts.1 in
          record {
            well_formed = record { places = places_of p sizes.1 kinds; narrow = narrow_of p sizes.1; cheap = lt_of (cost p) (2 ^ 32) here.1 };
            nodes = nodes_of p sizes.1 kinds;
            few_columns = subst (λ v. v ≤ 16384) sizes.0 (le_of w 16384 here.0);
          }
      by None is e = cc

  pub regular_full : (p : PlanTree) → Regular S p → is_regular S p ≡ true
  regular_full p h =
      ap (λ o. passes o (is_cheap p) (kinds_fit S p)) (widths_full S p (sized_of p h.well_formed.places h.well_formed.narrow h.nodes))
      ∙ make (is_narrow (width p) && is_cheap p) (kinds_fit S p)
      (make (is_narrow (width p)) (is_cheap p) (le_test (width p) 16384 h.few_columns) (lt_test (cost p) (2 ^ 32) h.well_formed.cheap))
      (kinded_full p (kinded_of p h.nodes))

  pub regular_tells : (p : PlanTree) (b : Bool) → b ≡ is_regular S p → IsTrue b ↔ Regular S p
  regular_tells p b e = ((λ t. regular_sound p (sym e ∙ t)), (λ h. e ∙ regular_full p h))
