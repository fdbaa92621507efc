-- No tree stands twice among those of some makers, if a tree tells by which maker it was made, and of what.
use Rattle.std.proofs.Common.{◌≡◌, ℕ, zero, suc, ◌+◌, ◌≤◌, List, [], ◌∷◌, map, refl, ap, sym, ◌∙◌, subst, arith, inl, inr}
use Rattle.std.specs.Prelude.{◌≢◌, flat_map}
use Rattle.wt_bag.specs.Bags.{Each}
use Rattle.wt_bag.specs.Choices.{Apart, Has}
use Rattle.wt_bag.proofs.EachLaws.{each_implies}
use Rattle.wt_bag.proofs.HasLaws.{has_split, has_from_map, has_from_flat_map}
use Rattle.wt_bag.proofs.UniqueLists.{each_has}
use Rattle.wt_template.specs.Order.{Maker, of_one, of_two, numbers_from, splits_from, over_one, over_two, under_root, trees, trees_of_sizes}
use Rattle.wt_pair_order.proofs.Apart.{apart_append, apart_flat_map, numbers_apart}

-- ---- two sizes with one sum

splits_least : (i j : ℕ) → Each (λ s. i ≤ s.0) (splits_from i j)
splits_least i zero = (omega arith, tt)
splits_least i (suc j) = (omega arith, each_implies (λ s. suc i ≤ s.0) (λ s. i ≤ s.0) (splits_from (suc i) j) (λ s h. omega (arith, h)) (splits_least (suc i) j))

splits_apart : (i j : ℕ) → Apart (splits_from i j)
splits_apart i zero = (tt, tt)
splits_apart i (suc j) = (
  each_implies (λ s. suc i ≤ s.0) (λ s. (i, suc j) ≢ s) (splits_from (suc i) j) (λ s h e. omega (arith, h, ap (λ p. p.0) e)) (splits_least (suc i) j),
  splits_apart (suc i) j,
)

splits_sum : (i j : ℕ) → Each (λ s. s.0 + s.1 ≡ i + j) (splits_from i j)
splits_sum i zero = (refl, tt)
splits_sum i (suc j) =
    (refl, each_implies (λ s. s.0 + s.1 ≡ suc i + j) (λ s. s.0 + s.1 ≡ i + suc j) (splits_from (suc i) j) (λ s h. omega (arith, h)) (splits_sum (suc i) j))

module _ {X : Type 0} (root size : X → ℕ) (left right : X → X) where
  -- what a maker makes tells its number and its operand or operands, and no variant of it makes the same
  pub record TellsOne (i : ℕ) (vs : List (X → X)) : Type 0 where
    pub by_root : (v : X → X) (x : X) → Has v vs → root (v x) ≡ i
    pub by_operand : (v : X → X) (x : X) → Has v vs → left (v x) ≡ x
    pub by_size : (v : X → X) (x : X) → Has v vs → size (v x) ≡ 1 + size x
    pub apart : (x : X) → Apart (map (λ v. v x) vs)

  pub record TellsTwo (i : ℕ) (vs : List (X → X → X)) : Type 0 where
    pub by_root : (v : X → X → X) (x y : X) → Has v vs → root (v x y) ≡ i
    pub by_left : (v : X → X → X) (x y : X) → Has v vs → left (v x y) ≡ x
    pub by_right : (v : X → X → X) (x y : X) → Has v vs → right (v x y) ≡ y
    pub by_size : (v : X → X → X) (x y : X) → Has v vs → size (v x y) ≡ 1 + size x + size y
    pub apart : (x y : X) → Apart (map (λ v. v x y) vs)

  abbrev pub Tells : ℕ → Maker X → Type 0
  Tells i (of_one vs) = TellsOne i vs
  Tells i (of_two vs) = TellsTwo i vs

  -- each maker has its place as its number
  abbrev pub AllTell : ℕ → List (Maker X) → Type 0
  AllTell i [] = Unit {0}
  AllTell i (m ∷ ms) = Tells i m × AllTell (suc i) ms

  one_of : (i : ℕ) (ms : List (Maker X)) (m : Maker X) → AllTell i ms → Has m ms → (j : ℕ) × Tells j m
  one_of i [] m t h = absurd h
  one_of i (n ∷ ms) m t (inl e) = (i, subst (Tells i) (sym e) t.0)
  one_of i (n ∷ ms) m t (inr h) = one_of (suc i) ms m t.1 h

  -- ---- what stands under one root

  module _ (smaller : ℕ → List X) (sized : (n : ℕ) (x : X) → Has x (smaller n) → size x ≡ n) where
    one_root : (i : ℕ) (vs : List (X → X)) (xs : List X) (z : X) → TellsOne i vs → Has z (over_one vs xs) → (root z ≡ i) × (x : X) × Has x xs × (left z ≡ x) × (size z ≡ 1 + size x)
    one_root i vs xs z t h =
        let (x, among, from) = has_from_flat_map z (λ x. map (λ v. v x) vs) xs h in
        let (v, is, e) = has_from_map z (λ v. v x) vs from in
        (ap root e ∙ t.by_root v x is, x, among, ap left e ∙ t.by_operand v x is, ap size e ∙ t.by_size v x is)

    two_root : (i : ℕ) (vs : List (X → X → X)) (xs ys : List X) (z : X) → TellsTwo i vs → Has z (over_two vs xs ys)
        → (root z ≡ i) × (x : X) × (y : X) × Has x xs × Has y ys × (left z ≡ x) × (right z ≡ y) × (size z ≡ 1 + size x + size y)
    two_root i vs xs ys z t h =
        let (x, among, from) = has_from_flat_map z (λ x. flat_map (λ y. map (λ v. v x y) vs) ys) xs h in
        let (y, among2, from2) = has_from_flat_map z (λ y. map (λ v. v x y) vs) ys from in
        let (v, is, e) = has_from_map z (λ v. v x y) vs from2 in
        (ap root e ∙ t.by_root v x y is, x, y, among, among2, ap left e ∙ t.by_left v x y is, ap right e ∙ t.by_right v x y is, ap size e ∙ t.by_size v x y is)

    root_is : (i n : ℕ) (m : Maker X) (z : X) → Tells i m → Has z (under_root smaller n m) → root z ≡ i
    root_is i n (of_one vs) z t h = (one_root i vs (smaller n) z t h).0
    root_is i n (of_two vs) z t h =
        let (s, among, from) = has_from_flat_map z (λ s. over_two vs (smaller s.0) (smaller s.1)) (splits_from 0 n) h in
        (two_root i vs (smaller s.0) (smaller s.1) z t from).0

    size_is : (i n : ℕ) (m : Maker X) (z : X) → Tells i m → Has z (under_root smaller n m) → size z ≡ suc n
    size_is i n (of_one vs) z t h =
        let (r, x, among, l, e) = one_root i vs (smaller n) z t h in omega (arith, e, sized n x among)
    size_is i n (of_two vs) z t h =
        let (s, among, from) = has_from_flat_map z (λ s. over_two vs (smaller s.0) (smaller s.1)) (splits_from 0 n) h in
        let (r, x, y, in_left, in_right, l, k, e) = two_root i vs (smaller s.0) (smaller s.1) z t from in
        omega (arith, e, sized s.0 x in_left, sized s.1 y in_right, each_has (λ s. s.0 + s.1 ≡ 0 + n) s (splits_from 0 n) (splits_sum 0 n) among)

    module _ (smaller_apart : (n : ℕ) → Apart (smaller n)) where
      one_apart : (i : ℕ) (vs : List (X → X)) (xs : List X) → TellsOne i vs → Apart xs → Apart (over_one vs xs)
      one_apart i vs xs t a =
          apart_flat_map (λ x. map (λ v. v x) vs) left xs
          (λ x z h. let (v, is, e) = has_from_map z (λ v. v x) vs h in ap left e ∙ t.by_operand v x is)
          (λ x h. t.apart x) a

      two_apart : (i : ℕ) (vs : List (X → X → X)) (xs ys : List X) → TellsTwo i vs → Apart xs → Apart ys → Apart (over_two vs xs ys)
      two_apart i vs xs ys t a b =
          apart_flat_map (λ x. flat_map (λ y. map (λ v. v x y) vs) ys) left xs
          (λ x z h.
          let (y, among, from) = has_from_flat_map z (λ y. map (λ v. v x y) vs) ys h in
          let (v, is, e) = has_from_map z (λ v. v x y) vs from in
          ap left e ∙ t.by_left v x y is)
          (λ x h. apart_flat_map (λ y. map (λ v. v x y) vs) right ys
          (λ y z k. let (v, is, e) = has_from_map z (λ v. v x y) vs k in ap right e ∙ t.by_right v x y is)
          (λ y k. t.apart x y) b)
          a

      root_apart : (i n : ℕ) (m : Maker X) → Tells i m → Apart (under_root smaller n m)
      root_apart i n (of_one vs) t = one_apart i vs (smaller n) t (smaller_apart n)
      root_apart i n (of_two vs) t =
          apart_flat_map (λ s. over_two vs (smaller s.0) (smaller s.1)) (λ z. (size (left z), size (right z))) (splits_from 0 n)
          (λ s z h.
          let (r, x, y, in_left, in_right, l, k, e) = two_root i vs (smaller s.0) (smaller s.1) z t h in
          let first : size (left z) ≡ s.0 = ap size l ∙ sized s.0 x in_left in
          let second : size (right z) ≡ s.1 = ap size k ∙ sized s.1 y in_right in
          (λ j. (first j, second j)))
          (λ s h. two_apart i vs (smaller s.0) (smaller s.1) t (smaller_apart s.0) (smaller_apart s.1))
          (splits_apart 0 n)

      -- later makers have greater numbers
      later : (i n : ℕ) (ms : List (Maker X)) (z : X) → AllTell i ms → Has z (flat_map (under_root smaller n) ms) → i ≤ root z
      later i n [] z t h = absurd h
      later i n (m ∷ ms) z t h = elim (has_split z (under_root smaller n m) (flat_map (under_root smaller n) ms) h) [
        | inl k ↦ omega (arith, root_is i n m z t.0 k)
        | inr k ↦ omega (arith, later (suc i) n ms z t.1 k)
      ]

      pub roots_apart : (i n : ℕ) (ms : List (Maker X)) → AllTell i ms → Apart (flat_map (under_root smaller n) ms)
      roots_apart i n [] t = tt
      roots_apart i n (m ∷ ms) t =
          apart_append (under_root smaller n m) (flat_map (under_root smaller n) ms) (root_apart i n m t.0) (roots_apart (suc i) n ms t.1)
          (λ z h k. omega (arith, root_is i n m z t.0 h, later (suc i) n ms z t.1 k))

  -- ---- all trees

  module _ (leaves : List X) (makers : List (Maker X)) (leaf_sizes : Each (λ x. size x ≡ 0) leaves) (leaves_apart : Apart leaves) (tell : AllTell 0 makers) where
    sized : (bound n : ℕ) (x : X) → Has x (trees leaves makers bound n) → size x ≡ n
    sized bound zero x h = each_has (λ x. size x ≡ 0) x leaves leaf_sizes h
    sized zero (suc n) x h = absurd h
    sized (suc bound) (suc n) x h =
        let (m, among, from) = has_from_flat_map x (under_root (trees leaves makers bound) n) makers h in
        let (j, t) = one_of 0 makers m tell among in
        size_is (trees leaves makers bound) (sized bound) j n m x t from

    size_apart : (bound n : ℕ) → Apart (trees leaves makers bound n)
    size_apart bound zero = leaves_apart
    size_apart zero (suc n) = tt
    size_apart (suc bound) (suc n) = roots_apart (trees leaves makers bound) (sized bound) (size_apart bound) 0 n makers tell

    pub trees_apart : (least many : ℕ) → Apart (trees_of_sizes leaves makers least many)
    trees_apart least many =
        apart_flat_map (trees leaves makers (least + many)) size (numbers_from least many) (sized (least + many)) (λ n h. size_apart (least + many) n) (numbers_apart least many)
