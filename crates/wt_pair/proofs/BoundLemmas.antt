-- How many templates and destinations there are at most within the limits.
use Rattle.std.proofs.Common.{◌≡◌, ℕ, zero, suc, ◌+◌, ◌*◌, ◌<◌, ◌≤◌, true, false, List, [], ◌∷◌, map, length, refl, ap, arith, length-append}
use Rattle.std.specs.Prelude.{◌==◌, if◌then◌else◌}
use Rattle.std.specs.Int.{bit_at}
use Rattle.std.specs.List.{flat_map}
use Rattle.std.proofs.lemmas.List.{length-map}
use Rattle.std.proofs.lemmas.Nat.{mul-le}
use Rattle.std.proofs.lemmas.Nat.Bits.{bit_at-lt}
use Rattle.wt_bag.specs.Bags.{Each}
use Rattle.wt_bag.proofs.EachLaws.{each_append, each_map, each_flat_map, each_implies}
use Rattle.wt_template.specs.declared.place.Variants.{Variants}
use Rattle.wt_template.specs.Order.{of_one, numbers_from, splits_from, over_two, under_root, trees}
use Rattle.wt_template.specs.Places.{pairs_before, number_of_trees}
use Rattle.wt_template.specs.Shapes.{Shape, size_of, if_letter, templates, templates_of_size}
use Rattle.wt_template.specs.Shapes.{input as any_input, proj as any_proj, filtered as any_filtered, inner_join as any_inner_join, left_join as any_left_join, in_sub as any_in_sub, dedup as any_dedup, makers as any_makers}
use Rattle.wt_template.proofs.OrderLemmas.{trees-bound}
use Rattle.wt_template.proofs.RootLemmas.{AreCounts, length_six}
use Rattle.wt_symbol.specs.Sides.{SideTree, PairTree}
use Rattle.wt_pair.specs.declared.source.Symbols.{Symbols}
use Rattle.wt_pair.specs.Candidates.{makers, leaf_count, list_count, pred_count, destinations_over}
use Rattle.wt_pair.specs.Dests.{destinations_of_size, variants_of}
use Rattle.wt_pair.specs.Walk.{symbols_of, IsSmall}
use Rattle.wt_pair.proofs.AnchorLemmas.{length-numbers}
use Rattle.wt_pair.proofs.DestLemmas.{side_leaves, are_counts_by, letter_length}

-- ---- trees of one size

trees-le : (v : Variants) (c : ℕ → ℕ) (n p f i l s d C Q : ℕ) → v.proj ≤ p → v.filter ≤ f → v.inner_join ≤ i → v.left_join ≤ l → v.in_sub ≤ s → v.dedup ≤ d →
    c n ≤ C → pairs_before c 0 n (suc n) ≤ Q → number_of_trees v c n ≤ C * p + C * f + Q * i + Q * l + Q * s + C * d
trees-le v c n p f i l s d C Q hp hf hi hl hs hd hC hQ =
    omega (
      arith,
      mul-le (c n) v.proj C p hC hp,
      mul-le (c n) v.filter C f hC hf,
      mul-le (pairs_before c 0 n (suc n)) v.inner_join Q i hQ hi,
      mul-le (pairs_before c 0 n (suc n)) v.left_join Q l hQ hl,
      mul-le (pairs_before c 0 n (suc n)) v.in_sub Q s hQ hs,
      mul-le (c n) v.dedup C d hC hd,
    )

-- a letter's choices are at most all
letter-le : (ops i n m : ℕ) → n ≤ m → bit_at ops i * n ≤ m
letter-le ops i n m h = let lt = bit_at-lt ops i in omega (arith, mul-le (bit_at ops i) n 1 m (omega arith) h)

module _ (ops : ℕ) (s : Symbols) (small : IsSmall s) where
  lengths : ℕ → ℕ → ℕ
  lengths n i = length (trees (side_leaves s) (makers ops s.lists s.preds) n i)

  lengths-is : (n i : ℕ) → i ≤ n → lengths n i ≡ length (destinations_of_size ops s i)
  unfolding lengths
  lengths-is n i h = ap length (trees-bound (side_leaves s) (makers ops s.lists s.preds) n i i h (omega arith))

  next-le : (n C Q : ℕ) → lengths n n ≤ C → pairs_before (lengths n) 0 n (suc n) ≤ Q → length (destinations_of_size ops s (suc n)) ≤ 41 * C + 136 * Q
  unfolding lengths
  next-le n C Q hC hQ =
      let pl : s.preds * s.lists ≤ 32 = mul-le s.preds s.lists 4 8 small.preds small.lists in
      let ll : s.lists * s.lists ≤ 64 = mul-le s.lists s.lists 8 8 small.lists small.lists in
      let bit = bit_at-lt ops 5 in
      let many = length_six _ n _ _ _ _ _ _ (variants_of ops s.lists s.preds) (lengths n) (are_counts_by ops n s (lengths n) (λ i h. refl)) in
      let bound = trees-le (variants_of ops s.lists s.preds) (lengths n) n 8 32 64 64 8 1 C Q (letter-le ops 0 s.lists 8 small.lists) (letter-le ops 1 (s.preds * s.lists) 32 pl)
      (letter-le ops 2 (s.lists * s.lists) 64 ll) (letter-le ops 3 (s.lists * s.lists) 64 ll) (letter-le ops 4 s.lists 8 small.lists) (omega arith) hC hQ in
      rw many (omega (arith, bound))

  size_0 : length (destinations_of_size ops s 0) ≤ 5
  size_0 = rw (length-map (numbers_from 0 s.leaves) (λ r. Rattle.wt_symbol.specs.Sides.input r), length-numbers 0 s.leaves) small.leaves

  size_1 : length (destinations_of_size ops s 1) ≤ 3605
  size_1 =
      let c0 : lengths 0 0 ≤ 5 = rw (lengths-is 0 0 (omega arith)) size_0 in
      next-le 0 5 25 c0 (mul-le (lengths 0 0) (lengths 0 0) 5 5 c0 c0)

  size_2 : length (destinations_of_size ops s 2) ≤ 5050605
  size_2 =
      let c0 : lengths 1 0 ≤ 5 = rw (lengths-is 1 0 (omega arith)) size_0 in
      let c1 : lengths 1 1 ≤ 3605 = rw (lengths-is 1 1 (omega arith)) size_1 in
      next-le 1 3605 36050 c1 (omega (arith, mul-le (lengths 1 0) (lengths 1 1) 5 3605 c0 c1, mul-le (lengths 1 1) (lengths 1 0) 3605 5 c1 c0))

  size_3 : length (destinations_of_size ops s 3) ≤ 8843357005
  size_3 =
      let c0 : lengths 2 0 ≤ 5 = rw (lengths-is 2 0 (omega arith)) size_0 in
      let c1 : lengths 2 1 ≤ 3605 = rw (lengths-is 2 1 (omega arith)) size_1 in
      let c2 : lengths 2 2 ≤ 5050605 = rw (lengths-is 2 2 (omega arith)) size_2 in
      next-le 2 5050605 63502075 c2 (omega (arith, mul-le (lengths 2 0) (lengths 2 2) 5 5050605 c0 c2, mul-le (lengths 2 1) (lengths 2 1) 3605 3605 c1 c1, mul-le (lengths 2 2) (lengths 2 0) 5050605 5 c2 c0))

  size_4 : length (destinations_of_size ops s 4) ≤ 17341964402805
  size_4 =
      let c0 : lengths 3 0 ≤ 5 = rw (lengths-is 3 0 (omega arith)) size_0 in
      let c1 : lengths 3 1 ≤ 3605 = rw (lengths-is 3 1 (omega arith)) size_1 in
      let c2 : lengths 3 2 ≤ 5050605 = rw (lengths-is 3 2 (omega arith)) size_2 in
      let c3 : lengths 3 3 ≤ 8843357005 = rw (lengths-is 3 3 (omega arith)) size_3 in
      next-le 3 8843357005 124848432100 c3 (omega (arith, mul-le (lengths 3 0) (lengths 3 3) 5 8843357005 c0 c3, mul-le (lengths 3 1) (lengths 3 2) 3605 5050605 c1 c2, mul-le (lengths 3 2) (lengths 3 1) 5050605 3605 c2 c1, mul-le (lengths 3 3) (lengths 3 0) 8843357005 5 c3 c0))

  size-le : (n : ℕ) → n ≤ 4 → length (destinations_of_size ops s n) ≤ 17341964402805
  size-le zero h = omega (arith, size_0)
  size-le (suc zero) h = omega (arith, size_1)
  size-le (suc (suc zero)) h = omega (arith, size_2)
  size-le (suc (suc (suc zero))) h = omega (arith, size_3)
  size-le (suc (suc (suc (suc zero)))) h = size_4
  size-le (suc (suc (suc (suc (suc n))))) h = absurd (omega arith)

-- ---- lists joined end to end

length-numbers_map : {X : Type 0} (f : ℕ → List X) (B e i m : ℕ) → ((j : ℕ) → j < e → length (f j) ≤ B) → i + m ≤ e → length (flat_map f (numbers_from i m)) ≤ m * B
length-numbers_map f B e i zero few h = omega arith
length-numbers_map f B e i (suc m) few h =
    let here = few i (omega arith) in
    let rest = length-numbers_map f B e (suc i) m few (omega arith) in
    grind (arith, length-append (f i) (flat_map f (numbers_from (suc i) m)), here, rest)

pub destinations-le : (ops most : ℕ) (s : Symbols) → IsSmall s → most ≤ 4 → length (destinations_over ops most s.leaves s.lists s.preds) ≤ 86709822014025
destinations-le ops most s small h =
    let each : (j : ℕ) → j < suc most → length (trees (side_leaves s) (makers ops s.lists s.preds) (0 + suc most) j) ≤ 17341964402805 =
    λ j within.
    let same : trees (side_leaves s) (makers ops s.lists s.preds) (0 + suc most) j ≡ destinations_of_size ops s j =
    trees-bound (side_leaves s) (makers ops s.lists s.preds) (0 + suc most) j j (omega arith) (omega arith) in
    rw same (size-le ops s small j (omega arith)) in
    let all = length-numbers_map (trees (side_leaves s) (makers ops s.lists s.preds) (0 + suc most)) 17341964402805 (suc most) 0 (suc most) each (omega arith) in
    omega (arith, all, mul-le (suc most) 17341964402805 5 17341964402805 (omega arith) (omega arith))

-- ---- templates

module _ (ops : ℕ) where
  t_variants : Variants
  t_variants = record {
    proj = bit_at ops 0 * 1;
    filter = bit_at ops 1 * 1;
    inner_join = bit_at ops 2 * 1;
    left_join = bit_at ops 3 * 1;
    in_sub = bit_at ops 4 * 1;
    dedup = bit_at ops 5 * 1;
  }

  t_lengths : ℕ → ℕ → ℕ
  t_lengths n i = length (trees (any_input ∷ []) (any_makers ops) n i)

  t_lengths-is : (n i : ℕ) → i ≤ n → t_lengths n i ≡ length (templates_of_size ops i)
  unfolding t_lengths
  t_lengths-is n i h = ap length (trees-bound (any_input ∷ []) (any_makers ops) n i i h (omega arith))

  t_counts : (n : ℕ) → AreCounts (trees (any_input ∷ []) (any_makers ops) n) n (if_letter ops 0 (any_proj ∷ [])) (if_letter ops 1 (any_filtered ∷ [])) (if_letter ops 2 (any_inner_join ∷ []))
      (if_letter ops 3 (any_left_join ∷ [])) (if_letter ops 4 (any_in_sub ∷ [])) (if_letter ops 5 (any_dedup ∷ [])) t_variants (t_lengths n)
  unfolding t_variants t_lengths
  t_counts n = record {
    trees = λ i h. refl;
    proj = letter_length ops 0 1 (any_proj ∷ []) refl;
    filter = letter_length ops 1 1 (any_filtered ∷ []) refl;
    inner_join = letter_length ops 2 1 (any_inner_join ∷ []) refl;
    left_join = letter_length ops 3 1 (any_left_join ∷ []) refl;
    in_sub = letter_length ops 4 1 (any_in_sub ∷ []) refl;
    dedup = letter_length ops 5 1 (any_dedup ∷ []) refl;
  }

  t_next-le : (n C Q : ℕ) → t_lengths n n ≤ C → pairs_before (t_lengths n) 0 n (suc n) ≤ Q → length (templates_of_size ops (suc n)) ≤ 3 * C + 3 * Q
  unfolding t_variants t_lengths
  t_next-le n C Q hC hQ =
      let many = length_six _ n _ _ _ _ _ _ t_variants (t_lengths n) (t_counts n) in
      let bound = trees-le t_variants (t_lengths n) n 1 1 1 1 1 1 C Q (letter-le ops 0 1 1 (omega arith)) (letter-le ops 1 1 1 (omega arith))
      (letter-le ops 2 1 1 (omega arith)) (letter-le ops 3 1 1 (omega arith)) (letter-le ops 4 1 1 (omega arith)) (letter-le ops 5 1 1 (omega arith)) hC hQ in
      rw many (omega (arith, bound))

  t_size_1 : length (templates_of_size ops 1) ≤ 6
  t_size_1 =
      let c0 : t_lengths 0 0 ≤ 1 = rw (t_lengths-is 0 0 (omega arith)) (omega arith) in
      t_next-le 0 1 1 c0 (mul-le (t_lengths 0 0) (t_lengths 0 0) 1 1 c0 c0)

  t_size_2 : length (templates_of_size ops 2) ≤ 54
  t_size_2 =
      let c0 : t_lengths 1 0 ≤ 1 = rw (t_lengths-is 1 0 (omega arith)) (omega arith) in
      let c1 : t_lengths 1 1 ≤ 6 = rw (t_lengths-is 1 1 (omega arith)) t_size_1 in
      t_next-le 1 6 12 c1 (omega (arith, mul-le (t_lengths 1 0) (t_lengths 1 1) 1 6 c0 c1, mul-le (t_lengths 1 1) (t_lengths 1 0) 6 1 c1 c0))

  t_size_3 : length (templates_of_size ops 3) ≤ 594
  t_size_3 =
      let c0 : t_lengths 2 0 ≤ 1 = rw (t_lengths-is 2 0 (omega arith)) (omega arith) in
      let c1 : t_lengths 2 1 ≤ 6 = rw (t_lengths-is 2 1 (omega arith)) t_size_1 in
      let c2 : t_lengths 2 2 ≤ 54 = rw (t_lengths-is 2 2 (omega arith)) t_size_2 in
      t_next-le 2 54 144 c2
      (omega (arith, mul-le (t_lengths 2 0) (t_lengths 2 2) 1 54 c0 c2, mul-le (t_lengths 2 1) (t_lengths 2 1) 6 6 c1 c1, mul-le (t_lengths 2 2) (t_lengths 2 0) 54 1 c2 c0))

  t_size_4 : length (templates_of_size ops 4) ≤ 7290
  t_size_4 =
      let c0 : t_lengths 3 0 ≤ 1 = rw (t_lengths-is 3 0 (omega arith)) (omega arith) in
      let c1 : t_lengths 3 1 ≤ 6 = rw (t_lengths-is 3 1 (omega arith)) t_size_1 in
      let c2 : t_lengths 3 2 ≤ 54 = rw (t_lengths-is 3 2 (omega arith)) t_size_2 in
      let c3 : t_lengths 3 3 ≤ 594 = rw (t_lengths-is 3 3 (omega arith)) t_size_3 in
      t_next-le 3 594 1836 c3 (omega (arith, mul-le (t_lengths 3 0) (t_lengths 3 3) 1 594 c0 c3, mul-le (t_lengths 3 1) (t_lengths 3 2) 6 54 c1 c2, mul-le (t_lengths 3 2) (t_lengths 3 1) 54 6 c2 c1, mul-le (t_lengths 3 3) (t_lengths 3 0) 594 1 c3 c0))

  t_size-le : (n : ℕ) → n ≤ 4 → length (templates_of_size ops n) ≤ 7290
  t_size-le zero h = omega arith
  t_size-le (suc zero) h = omega (arith, t_size_1)
  t_size-le (suc (suc zero)) h = omega (arith, t_size_2)
  t_size-le (suc (suc (suc zero))) h = omega (arith, t_size_3)
  t_size-le (suc (suc (suc (suc zero)))) h = t_size_4
  t_size-le (suc (suc (suc (suc (suc n))))) h = absurd (omega arith)

  pub templates-le : (src : ℕ) → src ≤ 4 → length (templates ops src) ≤ 29160
  templates-le src h =
      let each : (j : ℕ) → j < 1 + src → length (trees (any_input ∷ []) (any_makers ops) (1 + src) j) ≤ 7290 =
      λ j within.
      let same : trees (any_input ∷ []) (any_makers ops) (1 + src) j ≡ templates_of_size ops j =
      trees-bound (any_input ∷ []) (any_makers ops) (1 + src) j j (omega arith) (omega arith) in
      rw same (t_size-le j (omega arith)) in
      let all = length-numbers_map (trees (any_input ∷ []) (any_makers ops) (1 + src)) 7290 (1 + src) 1 src each (omega arith) in
      omega (arith, all, mul-le src 7290 4 7290 h (omega arith))

-- ---- sizes of templates

module _ (smaller : ℕ → List Shape) (n : ℕ) (sized : (i : ℕ) → i ≤ n → Each (λ t. size_of t ≡ i) (smaller i)) where
  each_one : (vs : List (Shape → Shape)) → Each (λ v. (t : Shape) → size_of (v t) ≡ 1 + size_of t) vs → Each (λ t. size_of t ≡ suc n) (under_root smaller n (of_one vs))
  each_one vs grows =
      each_flat_map (λ t. size_of t ≡ suc n) (λ x. map (λ v. v x) vs) (smaller n)
      (each_implies (λ x. size_of x ≡ n) (λ x. Each (λ t. size_of t ≡ suc n) (map (λ v. v x) vs)) (smaller n)
      (λ x at_n. each_map (λ t. size_of t ≡ suc n) (λ (v : Shape → Shape). v x) vs
      (each_implies (λ (v : Shape → Shape). (t : Shape) → size_of (v t) ≡ 1 + size_of t) (λ (v : Shape → Shape). size_of (v x) ≡ suc n) vs (λ v g. omega (arith, g x)) grows))
      (sized n (omega arith)))

  each_two : (vs : List (Shape → Shape → Shape)) → Each (λ v. (t u : Shape) → size_of (v t u) ≡ 1 + size_of t + size_of u) vs → (i j : ℕ) → i ≤ n → j ≤ n → i + j ≡ n →
      Each (λ t. size_of t ≡ suc n) (over_two vs (smaller i) (smaller j))
  each_two vs grows i j hi hj sum =
      each_flat_map (λ t. size_of t ≡ suc n) (λ x. flat_map (λ y. map (λ v. v x y) vs) (smaller j)) (smaller i)
      (each_implies (λ x. size_of x ≡ i) (λ x. Each (λ t. size_of t ≡ suc n) (flat_map (λ y. map (λ v. v x y) vs) (smaller j))) (smaller i)
      (λ x at_i.
      each_flat_map (λ t. size_of t ≡ suc n) (λ y. map (λ v. v x y) vs) (smaller j)
      (each_implies (λ y. size_of y ≡ j) (λ y. Each (λ t. size_of t ≡ suc n) (map (λ v. v x y) vs)) (smaller j)
      (λ y at_j. each_map (λ t. size_of t ≡ suc n) (λ (v : Shape → Shape → Shape). v x y) vs
      (each_implies (λ (v : Shape → Shape → Shape). (t u : Shape) → size_of (v t u) ≡ 1 + size_of t + size_of u) (λ (v : Shape → Shape → Shape). size_of (v x y) ≡ suc n) vs
      (λ v g. omega (arith, g x y)) grows))
      (sized j hj)))
      (sized i hi))

  each_splits : (vs : List (Shape → Shape → Shape)) → Each (λ v. (t u : Shape) → size_of (v t u) ≡ 1 + size_of t + size_of u) vs → (i j : ℕ) → i + j ≡ n →
      Each (λ t. size_of t ≡ suc n) (flat_map (λ s. over_two vs (smaller s.0) (smaller s.1)) (splits_from i j))
  each_splits vs grows i zero sum = each_append (λ t. size_of t ≡ suc n) (over_two vs (smaller i) (smaller 0)) [] (each_two vs grows i 0 (omega arith) (omega arith) sum) tt
  each_splits vs grows i (suc j) sum =
      each_append (λ t. size_of t ≡ suc n) (over_two vs (smaller i) (smaller (suc j))) _ (each_two vs grows i (suc j) (omega arith) (omega arith) sum)
      (each_splits vs grows (suc i) j (omega arith))

each_letter : {X : Type 0} (P : X → Type 0) (ops i : ℕ) (x : X) → P x → Each P (if_letter ops i (x ∷ []))
each_letter P ops i x h = elim (bit_at ops i == 1) as (λ b. Each P (if b then x ∷ [] else [])) [ true ↦ (h, tt) | false ↦ tt ]

pub each_sized : (ops b n : ℕ) → Each (λ t. size_of t ≡ n) (trees (any_input ∷ []) (any_makers ops) b n)
each_sized ops b zero = (refl, tt)
each_sized ops zero (suc n) = tt
each_sized ops (suc b) (suc n) =
    let s = trees (any_input ∷ []) (any_makers ops) b in
    let sized : (i : ℕ) → i ≤ n → Each (λ t. size_of t ≡ i) (s i) = λ i h. each_sized ops b i in
    let P : Shape → Type 0 = λ t. size_of t ≡ suc n in
    let one : (Shape → Shape) → Type 0 = λ v. (t : Shape) → size_of (v t) ≡ 1 + size_of t in
    let two : (Shape → Shape → Shape) → Type 0 = λ v. (t u : Shape) → size_of (v t u) ≡ 1 + size_of t + size_of u in
    each_append P _ _ (each_one s n sized _ (each_letter one ops 0 any_proj (λ t. refl)))
    (each_append P _ _ (each_one s n sized _ (each_letter one ops 1 any_filtered (λ t. refl)))
    (each_append P _ _ (each_splits s n sized _ (each_letter two ops 2 any_inner_join (λ t u. refl)) 0 n (omega arith))
    (each_append P _ _ (each_splits s n sized _ (each_letter two ops 3 any_left_join (λ t u. refl)) 0 n (omega arith))
    (each_append P _ _ (each_splits s n sized _ (each_letter two ops 4 any_in_sub (λ t u. refl)) 0 n (omega arith))
    (each_append P _ _ (each_one s n sized _ (each_letter one ops 5 any_dedup (λ t. refl))) tt)))))

each_numbers : (ops b e i m : ℕ) → i + m ≤ suc e → Each (λ t. size_of t ≤ e) (flat_map (trees (any_input ∷ []) (any_makers ops) b) (numbers_from i m))
each_numbers ops b e i zero h = tt
each_numbers ops b e i (suc m) h =
    each_append (λ t. size_of t ≤ e) (trees (any_input ∷ []) (any_makers ops) b i) _
    (each_implies (λ t. size_of t ≡ i) (λ t. size_of t ≤ e) _ (λ t is. omega arith) (each_sized ops b i))
    (each_numbers ops b e (suc i) m (omega arith))

pub each_template : (ops src : ℕ) → Each (λ t. size_of t ≤ src) (templates ops src)
each_template ops src = each_numbers ops (1 + src) src 1 src (omega arith)

leaves-le : (t : Shape) → leaf_count t ≤ 1 + size_of t
leaves-le any_input = omega arith
leaves-le (any_proj t) = omega (arith, leaves-le t)
leaves-le (any_filtered t) = omega (arith, leaves-le t)
leaves-le (any_inner_join t u) = omega (arith, leaves-le t, leaves-le u)
leaves-le (any_left_join t u) = omega (arith, leaves-le t, leaves-le u)
leaves-le (any_in_sub t u) = omega (arith, leaves-le t, leaves-le u)
leaves-le (any_dedup t) = omega (arith, leaves-le t)

lists-le : (t : Shape) → list_count t ≤ 2 * size_of t
lists-le any_input = omega arith
lists-le (any_proj t) = omega (arith, lists-le t)
lists-le (any_filtered t) = omega (arith, lists-le t)
lists-le (any_inner_join t u) = omega (arith, lists-le t, lists-le u)
lists-le (any_left_join t u) = omega (arith, lists-le t, lists-le u)
lists-le (any_in_sub t u) = omega (arith, lists-le t, lists-le u)
lists-le (any_dedup t) = omega (arith, lists-le t)

preds-le : (t : Shape) → pred_count t ≤ size_of t
preds-le any_input = omega arith
preds-le (any_proj t) = omega (arith, preds-le t)
preds-le (any_filtered t) = omega (arith, preds-le t)
preds-le (any_inner_join t u) = omega (arith, preds-le t, preds-le u)
preds-le (any_left_join t u) = omega (arith, preds-le t, preds-le u)
preds-le (any_in_sub t u) = omega (arith, preds-le t, preds-le u)
preds-le (any_dedup t) = omega (arith, preds-le t)

pub small_symbols : (t : Shape) → size_of t ≤ 4 → IsSmall (symbols_of t)
small_symbols t h = record {
  leaves = omega (arith, leaves-le t);
  lists = omega (arith, lists-le t);
  preds = omega (arith, preds-le t);
}
