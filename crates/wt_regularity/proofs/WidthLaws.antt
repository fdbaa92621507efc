-- What the walk over the widths says.
use Rattle.std.proofs.Common.{◌≡◌, ◌≢◌, ℕ, zero, suc, ◌+◌, ◌^◌, ◌<◌, ◌≤◌, nat_eq, nat_lt, true, false, not, List, [], ◌∷◌, length, Option, Some, refl, sym, ap, subst, ◌∙◌, arith}
use Rattle.std.specs.Prelude.{◌&&◌, slice_get}
use Rattle.std.proofs.lemmas.Bool.Decides.{nat_tests}
use Rattle.wt_schema.specs.declared.schema.Table.{Table}
use Rattle.wt_schema.specs.Lawful.{width_of}
use Rattle.wt_plan.specs.Tree.{PlanTree, table, proj, filtered, inner_join, left_join, in_sub, dedup}
use Rattle.wt_plan.specs.Measures.{width}
use Rattle.wt_plan.specs.WellFormed.{Places, Pairs}
use Rattle.wt_regularity.specs.Widths.{and_then, is_narrow, all_below, are_places, is_wide, listed_width, filtered_width, joined_width, matched_width, narrow, fitting_width}
use Rattle.wt_regularity.proofs.Tests.{both, make, is_not, lt_of, lt_test, le_of, le_test, eq_of, eq_test, each_of, each_test, if_so_of, if_so_test, then_of}

-- the places of each node are there, and it is as wide as it may be
abbrev pub Sized : List Table → PlanTree → Type 0
Sized S (table n w) = (n < length S) × (w ≡ width_of S n) × (w < 2 ^ 32)
Sized S (proj cols p) = Places (width p) cols × (length cols ≤ 16384) × Sized S p
Sized S (filtered pred cols p) = Places (width p) cols × Sized S p
Sized S (inner_join a b l r) = Pairs (width l) (width r) a b × (width l + width r < 2 ^ 32) × Sized S l × Sized S r
Sized S (left_join a b l r) = Pairs (width l) (width r) a b × (width l + width r < 2 ^ 32) × Sized S l × Sized S r
Sized S (in_sub cols l r) = Places (width l) cols × (length cols ≡ width r) × (width r ≤ 16384) × Sized S l × Sized S r
Sized S (dedup p) = (width p ≤ 16384) × Sized S p

wide_sound : (S : List Table) (n w : ℕ) → is_wide (slice_get S n) w ≡ true → (n < length S) × (w ≡ width_of S n)
wide_sound [] n w e = cc
wide_sound (t ∷ S) zero w e = (omega arith, sym (eq_of (length t.columns) w e))
wide_sound (t ∷ S) (suc n) w e = let rest = wide_sound S n w e in (omega (arith, rest.0), rest.1)

wide_full : (S : List Table) (n w : ℕ) → n < length S → w ≡ width_of S n → is_wide (slice_get S n) w ≡ true
wide_full [] n w h e = absurd (let bad : ⊥ = omega (arith, h) in bad)
wide_full (t ∷ S) zero w h e = eq_test (length t.columns) w (sym e)
wide_full (t ∷ S) (suc n) w h e = wide_full S n w (omega (arith, h)) e

some_sound : (cols : List ℕ) → not (nat_eq (length cols) 0) ≡ true → cols ≢ []
some_sound cols e h =
    let none : nat_eq (length cols) 0 ≡ true = eq_test (length cols) 0 (ap length h) in
    let not_none = is_not (nat_eq (length cols) 0) e in
    cc

some_full : (cols : List ℕ) → cols ≢ [] → not (nat_eq (length cols) 0) ≡ true
some_full [] h = absurd (h refl)
some_full (c ∷ cols) h = let more : nat_eq (length (c ∷ cols)) 0 ≡ false = grind (arith, nat_tests) in ap not more

places_sound : (w : ℕ) (cols : List ℕ) → are_places w cols ≡ true → Places w cols
places_sound w cols e =
    let parts = both (not (nat_eq (length cols) 0)) (all_below w cols) e in
    record { some = some_sound cols parts.0; within = each_of (λ c. nat_lt c w) (λ c. c < w) (λ c t. lt_of c w t) cols parts.1 }

places_full : (w : ℕ) (cols : List ℕ) → Places w cols → are_places w cols ≡ true
places_full w cols h =
    make (not (nat_eq (length cols) 0)) (all_below w cols) (some_full cols h.some) (each_test (λ c. nat_lt c w) (λ c. c < w) (λ c t. lt_test c w t) cols h.within)

pairs_sound : (m n w : ℕ) (a b : List ℕ) → joined_width m n a b ≡ Some w → (w ≡ m + n) × Pairs m n a b × (m + n < 2 ^ 32)
pairs_sound m n w a b e =
    let lists = are_places m a && are_places n b in
    let passes = if_so_of ((lists && nat_eq (length a) (length b)) && nat_lt (m + n) (2 ^ 32)) (m + n) w e in
    let parts = both (lists && nat_eq (length a) (length b)) (nat_lt (m + n) (2 ^ 32)) passes.0 in
    let alike = both lists (nat_eq (length a) (length b)) parts.0 in
    let each = both (are_places m a) (are_places n b) alike.0 in (
      sym passes.1,
      record { lefts = places_sound m a each.0; rights = places_sound n b each.1; equally_many = eq_of (length a) (length b) alike.1 },
      lt_of (m + n) (2 ^ 32) parts.1,
    )

pairs_full : (m n : ℕ) (a b : List ℕ) → Pairs m n a b → m + n < 2 ^ 32 → joined_width m n a b ≡ Some (m + n)
pairs_full m n a b h k =
    let lists = are_places m a && are_places n b in
    if_so_test ((lists && nat_eq (length a) (length b)) && nat_lt (m + n) (2 ^ 32)) (m + n)
    (make (lists && nat_eq (length a) (length b)) (nat_lt (m + n) (2 ^ 32))
    (make lists (nat_eq (length a) (length b)) (make (are_places m a) (are_places n b) (places_full m a h.lefts) (places_full n b h.rights)) (eq_test (length a) (length b) h.equally_many))
    (lt_test (m + n) (2 ^ 32) k))

matched_sound : (m n w : ℕ) (cols : List ℕ) → matched_width m n cols ≡ Some w → (w ≡ m) × Places m cols × (length cols ≡ n) × (n ≤ 16384)
matched_sound m n w cols e =
    let passes = if_so_of ((are_places m cols && nat_eq (length cols) n) && is_narrow n) m w e in
    let parts = both (are_places m cols && nat_eq (length cols) n) (is_narrow n) passes.0 in
    let list = both (are_places m cols) (nat_eq (length cols) n) parts.0 in
    (sym passes.1, places_sound m cols list.0, eq_of (length cols) n list.1, le_of n 16384 parts.1)

matched_full : (m n : ℕ) (cols : List ℕ) → Places m cols → length cols ≡ n → n ≤ 16384 → matched_width m n cols ≡ Some m
matched_full m n cols h e k =
    if_so_test ((are_places m cols && nat_eq (length cols) n) && is_narrow n) m
    (make (are_places m cols && nat_eq (length cols) n) (is_narrow n) (make (are_places m cols) (nat_eq (length cols) n) (places_full m cols h) (eq_test (length cols) n e)) (le_test n 16384 k))

then_some : (o : Option ℕ) (f : ℕ → Option ℕ) (m : ℕ) (r : Option ℕ) → o ≡ Some m → f m ≡ r → and_then o f ≡ r
then_some o f m r e h = ap (λ z. and_then z f) e ∙ h

module _ (S : List Table) where
  joined_sound : (a b : List ℕ) (l r : PlanTree) (w : ℕ) → and_then (fitting_width S l) (λ m. and_then (fitting_width S r) (λ n. joined_width m n a b)) ≡ Some w
      → ((w : ℕ) → fitting_width S l ≡ Some w → (w ≡ width l) × Sized S l) → ((w : ℕ) → fitting_width S r ≡ Some w → (w ≡ width r) × Sized S r)
      → (w ≡ width l + width r) × (Pairs (width l) (width r) a b × (width l + width r < 2 ^ 32) × Sized S l × Sized S r)
  joined_sound a b l r w e lefts rights =
      let o = then_of (fitting_width S l) (λ m. and_then (fitting_width S r) (λ n. joined_width m n a b)) w e in
      let u = then_of (fitting_width S r) (λ n. joined_width o.0 n a b) w o.2 in
      let left = lefts o.0 o.1 in
      let right = rights u.0 u.1 in
      let pairs = pairs_sound (width l) (width r) w a b (subst (λ m. joined_width m (width r) a b ≡ Some w) left.0 (subst (λ n. joined_width o.0 n a b ≡ Some w) right.0 u.2)) in
      (pairs.0, (pairs.1, pairs.2, left.1, right.1))

  joined_full : (a b : List ℕ) (l r : PlanTree) → fitting_width S l ≡ Some (width l) → fitting_width S r ≡ Some (width r) → Pairs (width l) (width r) a b → width l + width r < 2 ^ 32
      → and_then (fitting_width S l) (λ m. and_then (fitting_width S r) (λ n. joined_width m n a b)) ≡ Some (width l + width r)
  joined_full a b l r e f h k =
      then_some (fitting_width S l) (λ m. and_then (fitting_width S r) (λ n. joined_width m n a b)) (width l) (Some (width l + width r)) e
      (then_some (fitting_width S r) (λ n. joined_width (width l) n a b) (width r) (Some (width l + width r)) f (pairs_full (width l) (width r) a b h k))

  pub widths_sound : (p : PlanTree) (w : ℕ) → fitting_width S p ≡ Some w → (w ≡ width p) × Sized S p
  widths_sound (table n v) w e =
      let passes = if_so_of (is_wide (slice_get S n) v && nat_lt v (2 ^ 32)) v w e in
      let parts = both (is_wide (slice_get S n) v) (nat_lt v (2 ^ 32)) passes.0 in
      let there = wide_sound S n v parts.0 in
      (sym passes.1, (there.0, there.1, lt_of v (2 ^ 32) parts.1))
  widths_sound (proj cols p) w e =
      let o = then_of (fitting_width S p) (λ v. listed_width v cols) w e in
      let here = widths_sound p o.0 o.1 in
      let passes = if_so_of (are_places o.0 cols && is_narrow (length cols)) (length cols) w o.2 in
      let parts = both (are_places o.0 cols) (is_narrow (length cols)) passes.0 in
      (sym passes.1, (subst (λ v. Places v cols) here.0 (places_sound o.0 cols parts.0), le_of (length cols) 16384 parts.1, here.1))
  widths_sound (filtered pred cols p) w e =
      let o = then_of (fitting_width S p) (λ v. filtered_width v cols) w e in
      let here = widths_sound p o.0 o.1 in
      let passes = if_so_of (are_places o.0 cols) o.0 w o.2 in
      (sym passes.1 ∙ here.0, (subst (λ v. Places v cols) here.0 (places_sound o.0 cols passes.0), here.1))
  widths_sound (inner_join a b l r) w e = joined_sound a b l r w e (widths_sound l) (widths_sound r)
  widths_sound (left_join a b l r) w e = joined_sound a b l r w e (widths_sound l) (widths_sound r)
  widths_sound (in_sub cols l r) w e =
      let o = then_of (fitting_width S l) (λ m. and_then (fitting_width S r) (λ n. matched_width m n cols)) w e in
      let u = then_of (fitting_width S r) (λ n. matched_width o.0 n cols) w o.2 in
      let left = widths_sound l o.0 o.1 in
      let right = widths_sound r u.0 u.1 in
      let is = matched_sound (width l) (width r) w cols (subst (λ m. matched_width m (width r) cols ≡ Some w) left.0 (subst (λ n. matched_width o.0 n cols ≡ Some w) right.0 u.2)) in
      (is.0, (is.1, is.2, is.3, left.1, right.1))
  widths_sound (dedup p) w e =
      let o = then_of (fitting_width S p) narrow w e in
      let here = widths_sound p o.0 o.1 in
      let passes = if_so_of (is_narrow o.0) o.0 w o.2 in
      (sym passes.1 ∙ here.0, (subst (λ v. v ≤ 16384) here.0 (le_of o.0 16384 passes.0), here.1))

  pub widths_full : (p : PlanTree) → Sized S p → fitting_width S p ≡ Some (width p)
  widths_full (table n v) h =
      if_so_test (is_wide (slice_get S n) v && nat_lt v (2 ^ 32)) v (make (is_wide (slice_get S n) v) (nat_lt v (2 ^ 32)) (wide_full S n v h.0 h.1) (lt_test v (2 ^ 32) h.2))
  widths_full (proj cols p) h =
      then_some (fitting_width S p) (λ v. listed_width v cols) (width p) (Some (length cols)) (widths_full p h.2)
      (if_so_test (are_places (width p) cols && is_narrow (length cols)) (length cols) (make (are_places (width p) cols) (is_narrow (length cols)) (places_full (width p) cols h.0) (le_test (length cols) 16384 h.1)))
  widths_full (filtered pred cols p) h =
      then_some (fitting_width S p) (λ v. filtered_width v cols) (width p) (Some (width p)) (widths_full p h.1)
      (if_so_test (are_places (width p) cols) (width p) (places_full (width p) cols h.0))
  widths_full (inner_join a b l r) h = joined_full a b l r (widths_full l h.2) (widths_full r h.3) h.0 h.1
  widths_full (left_join a b l r) h = joined_full a b l r (widths_full l h.2) (widths_full r h.3) h.0 h.1
  widths_full (in_sub cols l r) h =
      then_some (fitting_width S l) (λ m. and_then (fitting_width S r) (λ n. matched_width m n cols)) (width l) (Some (width l)) (widths_full l h.3)
      (then_some (fitting_width S r) (λ n. matched_width (width l) n cols) (width r) (Some (width l)) (widths_full r h.4) (matched_full (width l) (width r) cols h.0 h.1 h.2))
  widths_full (dedup p) h =
      then_some (fitting_width S p) narrow (width p) (Some (width p)) (widths_full p h.1) (if_so_test (is_narrow (width p)) (width p) (le_test (width p) 16384 h.0))
