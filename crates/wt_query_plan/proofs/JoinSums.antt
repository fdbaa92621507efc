-- Sums over joined rows, whatever the rows are.
use Rattle.std.proofs.Common.{◌≡◌, ℕ, suc, ◌+◌, Bool, true, false, ◌&&◌, not, List, [], ◌∷◌, ◌++◌, map, filter, refl, sym, ap, ◌∙◌, arith}
use Rattle.std.specs.Prelude.{flat_map}
use Rattle.wt_bag.specs.Bags.{total, only, Each}
use Rattle.wt_bag.proofs.BagLaws.{positive}
use Rattle.wt_bag.proofs.EachLaws.{each_implies}
use Rattle.wt_bag.proofs.TotalLaws.{total-map, total-flat_map, total-filter, total_ext, total_each, only-and}
use Rattle.wt_value.specs.Values.{Tuple}
use Rattle.wt_query_rows.specs.Rows.{Named, or_padded}
use Rattle.wt_plan.specs.Rows.{or_nulls}
use Rattle.wt_plan.proofs.JoinTotals.{lone, some_more, or_nulls_sum, mapped_filter}

or_padded_sum : (g : Named → ℕ) (p : Named) (rows : List Named) → total g (or_padded p rows) ≡ total g rows + lone (total (λ _. 1) rows) (g p)
or_padded_sum g p [] = omega arith
or_padded_sum g p (w ∷ rows) = omega (arith, some_more (total (λ _. 1) rows) (g p))

filtered_map : {X Y : Type 0} (g : Y → ℕ) (p : Y → Bool) (f : X → Y) (xs : List X) → total g (filter p (map f xs)) ≡ total (λ x. only (p (f x)) (g (f x))) xs
filtered_map g p f xs = total-filter g p (map f xs) ∙ total-map (λ y. only (p y) (g y)) f xs

-- The rows K and P are those of two plans, under `k` and `p`. A joined row is made by `combine`, a joined row of the plans is seen as `view`.
module _ (K P : List Named) (PK PP : List Tuple) (k p : Tuple → Named)
    (kept : (g : Named → ℕ) → total g K ≡ total (λ u. g (k u)) PK) (partner : (g : Named → ℕ) → total g P ≡ total (λ v. g (p v)) PP)
    (combine : Named → Named → Named) (on : Named → Bool) (m : Tuple → Tuple → Bool) (view : Tuple → Named) where
  pub record Meets (o : Bool) (u v : Tuple) : Type 0 where
    pub same : on (combine (k u) (p v)) ≡ m u v && o
    pub seen : view (u ++ v) ≡ combine (k u) (p v)

  meets_sum : (g : Named → ℕ) (o : Bool) (u v : Tuple) → Meets o u v → only (on (combine (k u) (p v))) (g (combine (k u) (p v))) ≡ only (m u v) (only o (g (view (u ++ v))))
  meets_sum g o u v h = (λ i. only (h.same i) (g (sym h.seen i))) ∙ only-and (m u v) o (g (view (u ++ v)))

  -- an inner join; `o` is what is asked above it
  pub inner_law : (o : Tuple → Bool) → Each (λ u. Each (λ v. Meets (o (u ++ v)) u v) PP) PK → (g : Named → ℕ)
      → total g (flat_map (λ x. filter on (map (combine x) P)) K) ≡ total (λ w. g (view w)) (filter o (flat_map (λ u. map (λ v. u ++ v) (filter (m u) PP)) PK))
  inner_law o h g =
      total-flat_map g (λ x. filter on (map (combine x) P)) K
      ∙ total_ext (λ x. total g (filter on (map (combine x) P))) (λ x. total (λ y. only (on (combine x y)) (g (combine x y))) P) K (λ x. filtered_map g on (combine x) P)
      ∙ kept (λ x. total (λ y. only (on (combine x y)) (g (combine x y))) P)
      ∙ total_each _ _ PK (each_implies (λ u. Each (λ v. Meets (o (u ++ v)) u v) PP)
      (λ u. total (λ y. only (on (combine (k u) y)) (g (combine (k u) y))) P ≡ total (λ w. only (o w) (g (view w))) (map (λ v. u ++ v) (filter (m u) PP))) PK
      (λ u each. partner (λ y. only (on (combine (k u) y)) (g (combine (k u) y)))
      ∙ total_each _ _ PP (each_implies (λ v. Meets (o (u ++ v)) u v) (λ v. only (on (combine (k u) (p v))) (g (combine (k u) (p v))) ≡ only (m u v) (only (o (u ++ v)) (g (view (u ++ v))))) PP (λ v meets. meets_sum g (o (u ++ v)) u v meets) each)
      ∙ sym (mapped_filter (λ w. only (o w) (g (view w))) (λ v. u ++ v) (m u) PP)) h)
      ∙ sym (total-flat_map (λ w. only (o w) (g (view w))) (λ u. map (λ v. u ++ v) (filter (m u) PP)) PK)
      ∙ sym (total-filter (λ w. g (view w)) o (flat_map (λ u. map (λ v. u ++ v) (filter (m u) PP)) PK))

  -- a join that keeps each row of one operand; `o` is what is asked of the other one, `pad` and `ns` add the NULLs
  pub record Kept (o : Tuple → Bool) (pad : Named → Named) (ns u : Tuple) : Type 0 where
    pub partners : Each (λ v. Meets (o v) u v) PP
    pub alone : view (u ++ ns) ≡ pad (k u)

  abbrev row_sum : (Named → ℕ) → (Named → Named) → Named → ℕ
  row_sum g pad x = total (λ y. only (on (combine x y)) (g (combine x y))) P + lone (total (λ y. only (on (combine x y)) 1) P) (g (pad x))

  abbrev plan_sum : (Named → ℕ) → (Tuple → Bool) → Tuple → Tuple → ℕ
  plan_sum g o ns u = total (λ v. only (o v) (only (m u v) (g (view (u ++ v))))) PP + lone (total (λ v. only (o v) (only (m u v) 1)) PP) (g (view (u ++ ns)))

  only_swap : (a b : Bool) (n : ℕ) → only a (only b n) ≡ only b (only a n)
  only_swap true b n = refl
  only_swap false true n = refl
  only_swap false false n = refl

  partners_sum : (g : Named → ℕ) (o : Tuple → Bool) (u : Tuple) → Each (λ v. Meets (o v) u v) PP
      → total (λ y. only (on (combine (k u) y)) (g (combine (k u) y))) P ≡ total (λ v. only (o v) (only (m u v) (g (view (u ++ v))))) PP
  partners_sum g o u h = partner (λ y. only (on (combine (k u) y)) (g (combine (k u) y)))
      ∙ total_each _ _ PP (each_implies (λ v. Meets (o v) u v) (λ v. only (on (combine (k u) (p v))) (g (combine (k u) (p v))) ≡ only (o v) (only (m u v) (g (view (u ++ v))))) PP
      (λ v meets. meets_sum g (o v) u v meets ∙ only_swap (m u v) (o v) (g (view (u ++ v)))) h)

  rows_sum : (g : Named → ℕ) (o : Tuple → Bool) (pad : Named → Named) (ns u : Tuple) → Kept o pad ns u → row_sum g pad (k u) ≡ plan_sum g o ns u
  rows_sum g o pad ns u h = λ i. partners_sum g o u h.partners i + lone (partners_sum (λ _. 1) o u h.partners i) (g (sym h.alone i))

  joined_sum : (G : Tuple → ℕ) (o : Tuple → Bool) (u : Tuple) → total G (map (λ v. u ++ v) (filter (m u) (filter o PP))) ≡ total (λ v. only (o v) (only (m u v) (G (u ++ v)))) PP
  joined_sum G o u = mapped_filter G (λ v. u ++ v) (m u) (filter o PP) ∙ total-filter (λ v. only (m u v) (G (u ++ v))) o PP

  pub kept_law : (o : Tuple → Bool) (pad : Named → Named) (ns : Tuple) → Each (Kept o pad ns) PK → (g : Named → ℕ)
      → total g (flat_map (λ x. or_padded (pad x) (filter on (map (combine x) P))) K)
      ≡ total (λ w. g (view w)) (flat_map (λ u. or_nulls (u ++ ns) (map (λ v. u ++ v) (filter (m u) (filter o PP)))) PK)
  kept_law o pad ns h g =
      total-flat_map g (λ x. or_padded (pad x) (filter on (map (combine x) P))) K
      ∙ total_ext (λ x. total g (or_padded (pad x) (filter on (map (combine x) P)))) (row_sum g pad) K
      (λ x. or_padded_sum g (pad x) (filter on (map (combine x) P)) ∙ (λ i. filtered_map g on (combine x) P i + lone (filtered_map (λ _. 1) on (combine x) P i) (g (pad x))))
      ∙ kept (row_sum g pad)
      ∙ total_each _ _ PK (each_implies (Kept o pad ns) (λ u. row_sum g pad (k u) ≡ total (λ w. g (view w)) (or_nulls (u ++ ns) (map (λ v. u ++ v) (filter (m u) (filter o PP))))) PK
      (λ u one. rows_sum g o pad ns u one
      ∙ sym (or_nulls_sum (λ w. g (view w)) (u ++ ns) (map (λ v. u ++ v) (filter (m u) (filter o PP)))
      ∙ (λ i. joined_sum (λ w. g (view w)) o u i + lone (joined_sum (λ _. 1) o u i) (g (view (u ++ ns)))))) h)
      ∙ sym (total-flat_map (λ w. g (view w)) (λ u. or_nulls (u ++ ns) (map (λ v. u ++ v) (filter (m u) (filter o PP)))) PK)
