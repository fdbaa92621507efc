-- The tree at a place, and how many trees of one size there are, for the six operators over any trees.
use Rattle.std.proofs.Common.{◌≡◌, ℕ, zero, suc, ◌+◌, ◌-◌, ◌*◌, ◌≤◌, List, [], ◌∷◌, length, Some, refl, arith, length-append, zero-add}
use Rattle.std.specs.Prelude.{slice_get}
use Rattle.std.specs.List.{flat_map}
use Rattle.wt_template.specs.declared.place.Place.TheVariants.{Proj, Filter, InnerJoin, LeftJoin, InSub, Dedup}
use Rattle.wt_template.specs.declared.place.Variants.{Variants}
use Rattle.wt_template.specs.declared.place.OneOperand.{OneOperand}
use Rattle.wt_template.specs.declared.place.TwoOperands.{TwoOperands}
use Rattle.wt_template.specs.Order.{Maker, of_one, of_two, over_two, under_root}
use Rattle.wt_template.specs.Places.{pairs_before, one_number, one_block, two_number, two_block, number_of, number_of_trees}
use Rattle.wt_template.proofs.OrderLemmas.{get_left, get_past, get-over_one, get-over_two, length-over_one, length-over_two, get-splits, length-splits}

-- pairs of operands are counted from the sizes up to n alone
pub pairs_before-agree : (c d : ℕ → ℕ) (n : ℕ) → ((i : ℕ) → i ≤ n → c i ≡ d i) → (i j s : ℕ) → i + j ≤ n → s ≤ suc j →
    pairs_before c i j s ≡ pairs_before d i j s
pairs_before-agree c d n same i j zero within h = refl
pairs_before-agree c d n same i zero (suc s) within h = rw (same i (omega arith), same 0 (omega arith)) refl
pairs_before-agree c d n same i (suc j) (suc s) within h =
    let rest : pairs_before c (suc i) j s ≡ pairs_before d (suc i) j s = pairs_before-agree c d n same (suc i) j s (omega arith) (omega arith) in
    rw (same i (omega arith), same (suc j) (omega arith), rest) refl

-- the operators in the order of the table, each with its variants
abbrev pub six : {X : Type 0} → List (X → X) → List (X → X) → List (X → X → X) → List (X → X → X) → List (X → X → X) → List (X → X) → List (Maker X)
six ps fs is ls ss ds = of_one ps ∷ of_one fs ∷ of_two is ∷ of_two ls ∷ of_two ss ∷ of_one ds ∷ []

-- how many trees of each size up to n and how many variants there are
pub record AreCounts {X : Type 0} (smaller : ℕ → List X) (n : ℕ) (ps fs : List (X → X)) (is ls ss : List (X → X → X)) (ds : List (X → X)) (v : Variants) (c : ℕ → ℕ) : Type 0 where
  pub trees : (i : ℕ) → i ≤ n → c i ≡ length (smaller i)
  pub proj : v.proj ≡ length ps
  pub filter : v.filter ≡ length fs
  pub inner_join : v.inner_join ≡ length is
  pub left_join : v.left_join ≡ length ls
  pub in_sub : v.in_sub ≡ length ss
  pub dedup : v.dedup ≡ length ds

module _ {X : Type 0} (smaller : ℕ → List X) (n : ℕ) (c : ℕ → ℕ) (counted : (i : ℕ) → i ≤ n → c i ≡ length (smaller i)) where
  pub length_one : (vs : List (X → X)) (w : ℕ) → w ≡ length vs → length (under_root smaller n (of_one vs)) ≡ one_block w c n
  length_one vs w e = let at_n : c n ≡ length (smaller n) = counted n (omega arith) in rw (e, at_n) (length-over_one vs (smaller n))

  pub get_one : (vs : List (X → X)) (w : ℕ) → w ≡ length vs → (o : OneOperand) (f : X → X) (x : X) →
      slice_get vs o.variant ≡ Some f → slice_get (smaller n) o.operand ≡ Some x →
      slice_get (under_root smaller n (of_one vs)) (one_number w o) ≡ Some (f x)
  get_one vs w e o f x at_v at_x = rw e (get-over_one vs (smaller n) o.operand o.variant f x at_x at_v)

  lengths : ℕ → ℕ
  lengths i = length (smaller i)

  pub length_two : (vs : List (X → X → X)) (w : ℕ) → w ≡ length vs → length (under_root smaller n (of_two vs)) ≡ two_block w c n
  unfolding lengths
  length_two vs w e =
      let same : pairs_before c 0 n (suc n) ≡ pairs_before lengths 0 n (suc n) =
      pairs_before-agree c lengths n counted 0 n (suc n) (omega arith) (omega arith) in
      rw (e, same)
      (length-splits (λ s. over_two vs (smaller s.0) (smaller s.1)) lengths (length vs)
      (λ i j. length-over_two vs (smaller i) (smaller j)) 0 n)

  pub get_two : (vs : List (X → X → X)) (w : ℕ) → w ≡ length vs → (o : TwoOperands) (f : X → X → X) (x y : X) → o.left_size ≤ n →
      slice_get vs o.variant ≡ Some f → slice_get (smaller o.left_size) o.left ≡ Some x → slice_get (smaller (n - o.left_size)) o.right ≡ Some y →
      slice_get (under_root smaller n (of_two vs)) (two_number w c n o) ≡ Some (f x y)
  unfolding lengths
  get_two vs w e o f x y within at_v at_x at_y =
      let same : pairs_before c 0 n o.left_size ≡ pairs_before lengths 0 n o.left_size =
      pairs_before-agree c lengths n counted 0 n o.left_size (omega arith) (omega arith) in
      let rights : c (n - o.left_size) ≡ length (smaller (n - o.left_size)) = counted (n - o.left_size) (omega arith) in
      let here : slice_get (over_two vs (smaller (0 + o.left_size)) (smaller (n - o.left_size))) ((o.left * length (smaller (n - o.left_size)) + o.right) * length vs + o.variant) ≡ Some (f x y) =
      rw zero-add (get-over_two vs (smaller o.left_size) (smaller (n - o.left_size)) o.left o.right o.variant f x y at_x at_y at_v) in
      rw (e, same, rights)
      (get-splits (λ s. over_two vs (smaller s.0) (smaller s.1)) lengths (length vs)
      (λ i j. length-over_two vs (smaller i) (smaller j)) 0 n o.left_size
      ((o.left * length (smaller (n - o.left_size)) + o.right) * length vs + o.variant) (f x y) within here)

module _ {X : Type 0} (smaller : ℕ → List X) (n : ℕ) (ps fs : List (X → X)) (is ls ss : List (X → X → X)) (ds : List (X → X)) (v : Variants) (c : ℕ → ℕ) (counts : AreCounts smaller n ps fs is ls ss ds v c) where
  p_length : length (under_root smaller n (of_one ps)) ≡ one_block v.proj c n
  p_length = length_one smaller n c counts.trees ps v.proj counts.proj

  f_length : length (under_root smaller n (of_one fs)) ≡ one_block v.filter c n
  f_length = length_one smaller n c counts.trees fs v.filter counts.filter

  i_length : length (under_root smaller n (of_two is)) ≡ two_block v.inner_join c n
  i_length = length_two smaller n c counts.trees is v.inner_join counts.inner_join

  l_length : length (under_root smaller n (of_two ls)) ≡ two_block v.left_join c n
  l_length = length_two smaller n c counts.trees ls v.left_join counts.left_join

  s_length : length (under_root smaller n (of_two ss)) ≡ two_block v.in_sub c n
  s_length = length_two smaller n c counts.trees ss v.in_sub counts.in_sub

  d_length : length (under_root smaller n (of_one ds)) ≡ one_block v.dedup c n
  d_length = length_one smaller n c counts.trees ds v.dedup counts.dedup

  pub length_six : length (flat_map (under_root smaller n) (six ps fs is ls ss ds)) ≡ number_of_trees v c n
  length_six =
      grind (
        arith,
        length-append (under_root smaller n (of_one ps)) (flat_map (under_root smaller n) (of_one fs ∷ of_two is ∷ of_two ls ∷ of_two ss ∷ of_one ds ∷ [])),
        length-append (under_root smaller n (of_one fs)) (flat_map (under_root smaller n) (of_two is ∷ of_two ls ∷ of_two ss ∷ of_one ds ∷ [])),
        length-append (under_root smaller n (of_two is)) (flat_map (under_root smaller n) (of_two ls ∷ of_two ss ∷ of_one ds ∷ [])),
        length-append (under_root smaller n (of_two ls)) (flat_map (under_root smaller n) (of_two ss ∷ of_one ds ∷ [])),
        length-append (under_root smaller n (of_two ss)) (flat_map (under_root smaller n) (of_one ds ∷ [])),
        length-append (under_root smaller n (of_one ds)) [],
        p_length,
        f_length,
        i_length,
        l_length,
        s_length,
        d_length,
      )

  -- the list's parts
  after_p : (k p : ℕ) (t : X) → p ≡ one_block v.proj c n + k →
      slice_get (flat_map (under_root smaller n) (of_one fs ∷ of_two is ∷ of_two ls ∷ of_two ss ∷ of_one ds ∷ [])) k ≡ Some t →
      slice_get (flat_map (under_root smaller n) (six ps fs is ls ss ds)) p ≡ Some t
  after_p k p t e h = get_past (under_root smaller n (of_one ps)) _ (one_block v.proj c n) p k t p_length e h

  after_f : (k p : ℕ) (t : X) → p ≡ one_block v.proj c n + one_block v.filter c n + k →
      slice_get (flat_map (under_root smaller n) (of_two is ∷ of_two ls ∷ of_two ss ∷ of_one ds ∷ [])) k ≡ Some t →
      slice_get (flat_map (under_root smaller n) (six ps fs is ls ss ds)) p ≡ Some t
  after_f k p t e h =
      after_p (one_block v.filter c n + k) p t (omega arith)
      (get_past (under_root smaller n (of_one fs)) _ (one_block v.filter c n) _ k t f_length refl h)

  after_i : (k p : ℕ) (t : X) → p ≡ one_block v.proj c n + one_block v.filter c n + two_block v.inner_join c n + k →
      slice_get (flat_map (under_root smaller n) (of_two ls ∷ of_two ss ∷ of_one ds ∷ [])) k ≡ Some t →
      slice_get (flat_map (under_root smaller n) (six ps fs is ls ss ds)) p ≡ Some t
  after_i k p t e h =
      after_f (two_block v.inner_join c n + k) p t (omega arith)
      (get_past (under_root smaller n (of_two is)) _ (two_block v.inner_join c n) _ k t i_length refl h)

  after_l : (k p : ℕ) (t : X) → p ≡ one_block v.proj c n + one_block v.filter c n + two_block v.inner_join c n + two_block v.left_join c n + k →
      slice_get (flat_map (under_root smaller n) (of_two ss ∷ of_one ds ∷ [])) k ≡ Some t →
      slice_get (flat_map (under_root smaller n) (six ps fs is ls ss ds)) p ≡ Some t
  after_l k p t e h =
      after_i (two_block v.left_join c n + k) p t (omega arith)
      (get_past (under_root smaller n (of_two ls)) _ (two_block v.left_join c n) _ k t l_length refl h)

  after_s : (k p : ℕ) (t : X) →
      p ≡ one_block v.proj c n + one_block v.filter c n + two_block v.inner_join c n + two_block v.left_join c n + two_block v.in_sub c n + k →
      slice_get (flat_map (under_root smaller n) (of_one ds ∷ [])) k ≡ Some t →
      slice_get (flat_map (under_root smaller n) (six ps fs is ls ss ds)) p ≡ Some t
  after_s k p t e h =
      after_l (two_block v.in_sub c n + k) p t (omega arith)
      (get_past (under_root smaller n (of_two ss)) _ (two_block v.in_sub c n) _ k t s_length refl h)

  pub get_proj : (o : OneOperand) (f : X → X) (x : X) → slice_get ps o.variant ≡ Some f → slice_get (smaller n) o.operand ≡ Some x →
      slice_get (flat_map (under_root smaller n) (six ps fs is ls ss ds)) (number_of v c n (Proj o)) ≡ Some (f x)
  get_proj o f x at_v at_x =
      get_left (under_root smaller n (of_one ps)) _ _ (f x) (get_one smaller n c counts.trees ps v.proj counts.proj o f x at_v at_x)

  pub get_filter : (o : OneOperand) (f : X → X) (x : X) → slice_get fs o.variant ≡ Some f → slice_get (smaller n) o.operand ≡ Some x →
      slice_get (flat_map (under_root smaller n) (six ps fs is ls ss ds)) (number_of v c n (Filter o)) ≡ Some (f x)
  get_filter o f x at_v at_x =
      after_p _ _ (f x) refl
      (get_left (under_root smaller n (of_one fs)) _ _ (f x) (get_one smaller n c counts.trees fs v.filter counts.filter o f x at_v at_x))

  pub get_inner_join : (o : TwoOperands) (f : X → X → X) (x y : X) → o.left_size ≤ n →
      slice_get is o.variant ≡ Some f → slice_get (smaller o.left_size) o.left ≡ Some x → slice_get (smaller (n - o.left_size)) o.right ≡ Some y →
      slice_get (flat_map (under_root smaller n) (six ps fs is ls ss ds)) (number_of v c n (InnerJoin o)) ≡ Some (f x y)
  get_inner_join o f x y h at_v at_x at_y =
      after_f _ _ (f x y) refl
      (get_left (under_root smaller n (of_two is)) _ _ (f x y)
      (get_two smaller n c counts.trees is v.inner_join counts.inner_join o f x y h at_v at_x at_y))

  pub get_left_join : (o : TwoOperands) (f : X → X → X) (x y : X) → o.left_size ≤ n →
      slice_get ls o.variant ≡ Some f → slice_get (smaller o.left_size) o.left ≡ Some x → slice_get (smaller (n - o.left_size)) o.right ≡ Some y →
      slice_get (flat_map (under_root smaller n) (six ps fs is ls ss ds)) (number_of v c n (LeftJoin o)) ≡ Some (f x y)
  get_left_join o f x y h at_v at_x at_y =
      after_i _ _ (f x y) refl
      (get_left (under_root smaller n (of_two ls)) _ _ (f x y)
      (get_two smaller n c counts.trees ls v.left_join counts.left_join o f x y h at_v at_x at_y))

  pub get_in_sub : (o : TwoOperands) (f : X → X → X) (x y : X) → o.left_size ≤ n →
      slice_get ss o.variant ≡ Some f → slice_get (smaller o.left_size) o.left ≡ Some x → slice_get (smaller (n - o.left_size)) o.right ≡ Some y →
      slice_get (flat_map (under_root smaller n) (six ps fs is ls ss ds)) (number_of v c n (InSub o)) ≡ Some (f x y)
  get_in_sub o f x y h at_v at_x at_y =
      after_l _ _ (f x y) refl
      (get_left (under_root smaller n (of_two ss)) _ _ (f x y)
      (get_two smaller n c counts.trees ss v.in_sub counts.in_sub o f x y h at_v at_x at_y))

  pub get_dedup : (o : OneOperand) (f : X → X) (x : X) → slice_get ds o.variant ≡ Some f → slice_get (smaller n) o.operand ≡ Some x →
      slice_get (flat_map (under_root smaller n) (six ps fs is ls ss ds)) (number_of v c n (Dedup o)) ≡ Some (f x)
  get_dedup o f x at_v at_x =
      after_s _ _ (f x) refl
      (get_left (under_root smaller n (of_one ds)) _ _ (f x) (get_one smaller n c counts.trees ds v.dedup counts.dedup o f x at_v at_x))
