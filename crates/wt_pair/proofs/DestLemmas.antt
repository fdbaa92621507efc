-- The destination at a place, and how many destinations of one size there are.
use Rattle.std.proofs.Common.{◌≡◌, ℕ, zero, suc, ◌+◌, ◌-◌, ◌*◌, ◌/◌, ◌%◌, ◌<◌, ◌≤◌, List, [], ◌∷◌, ◌++◌, map, length, slice_index, get_or, Some, inl, inr, refl, sym, ap, ◌∙◌, arith, zero-add, mul-zero, zero-mul}
use Rattle.std.specs.Prelude.{slice_get}
use Rattle.std.specs.Int.{bit_at}
use Rattle.std.specs.List.{flat_map}
use Rattle.std.proofs.lemmas.Bool.{cases_lt, cases_eq}
use Rattle.std.proofs.lemmas.List.{length-map, get_or_append_left, get_or_push}
use Rattle.std.proofs.lemmas.Option.{slice_get-map, slice_get-get_or, slice_get_within}
use Rattle.std.proofs.lemmas.Nat.{div-add-mod', div_below, mod_below}
use Rattle.std.proofs.lemmas.Nat.Bits.{bit_at-lt}
use Rattle.wt_template.specs.declared.place.Place.{Place}
use Rattle.wt_template.specs.declared.place.Place.TheVariants.{Proj, Filter, InnerJoin, LeftJoin, InSub, Dedup}
use Rattle.wt_template.specs.declared.place.Variants.{Variants}
use Rattle.wt_template.specs.declared.place.OneOperand.{OneOperand}
use Rattle.wt_template.specs.declared.place.TwoOperands.{TwoOperands}
use Rattle.wt_template.specs.Order.{numbers_from, trees}
use Rattle.wt_template.specs.Places.{IsPlace, number_of, number_of_trees}
use Rattle.wt_template.specs.Shapes.{if_letter}
use Rattle.wt_template.proofs.OrderLemmas.{get_left, get_right, get-flat_map, length-flat_map_even, trees-bound}
use Rattle.wt_template.proofs.RootLemmas.{AreCounts, length_six, get_proj, get_filter, get_inner_join, get_left_join, get_in_sub, get_dedup}
use Rattle.wt_symbol.specs.Sides.{SideTree, input, proj, filtered, inner_join, left_join, in_sub, dedup}
use Rattle.wt_pair.specs.declared.source.Symbols.{Symbols}
use Rattle.wt_pair.specs.Candidates.{makers, destinations_over}
use Rattle.wt_pair.specs.Dests.{destinations_of_size, variants_of, CountsDests}
use Rattle.wt_pair.proofs.AnchorLemmas.{length-numbers, get-numbers}

-- ---- variants by number

pub letter_length : {X : Type 0} (ops i n : ℕ) (xs : List X) → length xs ≡ n → bit_at ops i * n ≡ length (if_letter ops i xs)
letter_length ops i n xs h =
    let lt = bit_at-lt ops i in
    elim (cases_eq (bit_at ops i) 1) [
      | inl e ↦ rw e (omega (arith, h))
      | inr ne ↦ let none : bit_at ops i ≡ 0 = omega arith in rw none (zero-mul n)
    ]

pub letter_within : (ops i n v : ℕ) → v < bit_at ops i * n → (bit_at ops i ≡ 1) × (v < n)
letter_within ops i n v h =
    let lt = bit_at-lt ops i in
    elim (cases_eq (bit_at ops i) 1) [
      | inl e ↦ (e, omega (arith, rw e at h))
      | inr ne ↦ let none : bit_at ops i ≡ 0 = omega arith in absurd (omega (arith, rw (none, zero-mul) at h))
    ]

letter_get : {X : Type 0} (ops i n v : ℕ) (xs : List X) (x : X) → v < bit_at ops i * n → slice_get xs v ≡ Some x → slice_get (if_letter ops i xs) v ≡ Some x
letter_get ops i n v xs x h at_v = let bit = (letter_within ops i n v h).0 in rw bit at_v

one_length : {X : Type 0} (f : ℕ → X) (n : ℕ) → length (map f (numbers_from 0 n)) ≡ n
one_length f n = length-map (numbers_from 0 n) f ∙ length-numbers 0 n

one_get : {X : Type 0} (f : ℕ → X) (n v : ℕ) → v < n → slice_get (map f (numbers_from 0 n)) v ≡ Some (f v)
one_get f n v h = slice_get-map f (numbers_from 0 n) v ∙ rw (get-numbers 0 n v h, zero-add) refl

two_length : {X : Type 0} (f : ℕ → ℕ → X) (m n : ℕ) → length (flat_map (λ a. map (f a) (numbers_from 0 n)) (numbers_from 0 m)) ≡ m * n
two_length f m n =
    length-flat_map_even (λ a. map (f a) (numbers_from 0 n)) n (λ a. one_length (f a) n) (numbers_from 0 m) ∙ rw (length-numbers 0 m) refl

-- a number below a product, taken apart
pub parts_of : (m n v : ℕ) → v < m * n → (0 < n) × (v / n < m) × (v % n < n)
parts_of m zero v h = absurd (omega (arith, rw mul-zero at h))
parts_of m (suc n) v h = (omega arith, div_below v (suc n) m (omega arith) h, mod_below v (suc n) (omega arith))

two_get : {X : Type 0} (f : ℕ → ℕ → X) (m n v : ℕ) → v < m * n →
    slice_get (flat_map (λ a. map (f a) (numbers_from 0 n)) (numbers_from 0 m)) v ≡ Some (f (v / n) (v % n))
two_get f m n v h =
    let parts = parts_of m n v h in
    let found : slice_get (flat_map (λ a. map (f a) (numbers_from 0 n)) (numbers_from 0 m)) (v / n * n + v % n) ≡ Some (f (v / n) (v % n)) =
    get-flat_map (λ a. map (f a) (numbers_from 0 n)) n (λ a. one_length (f a) n) (numbers_from 0 m) (v / n) (v % n) (v / n) (f (v / n) (v % n))
    (get-numbers 0 m (v / n) parts.1 ∙ rw zero-add refl) (one_get (f (v / n)) n (v % n) parts.2) in
    rw div-add-mod' at found

-- ---- destinations of one size

abbrev pub side_leaves : Symbols → List SideTree
side_leaves s = map (λ r. input r) (numbers_from 0 s.leaves)

pub are_counts_by : (ops n : ℕ) (s : Symbols) (c : ℕ → ℕ) → ((i : ℕ) → i ≤ n → c i ≡ length (trees (side_leaves s) (makers ops s.lists s.preds) n i)) →
    AreCounts (trees (side_leaves s) (makers ops s.lists s.preds) n) n (if_letter ops 0 (map (λ a t. proj a t) (numbers_from 0 s.lists)))
    (if_letter ops 1 (flat_map (λ p. map (λ a t. filtered p a t) (numbers_from 0 s.lists)) (numbers_from 0 s.preds)))
    (if_letter ops 2 (flat_map (λ a. map (λ b t u. inner_join a b t u) (numbers_from 0 s.lists)) (numbers_from 0 s.lists)))
    (if_letter ops 3 (flat_map (λ a. map (λ b t u. left_join a b t u) (numbers_from 0 s.lists)) (numbers_from 0 s.lists)))
    (if_letter ops 4 (map (λ a t u. in_sub a t u) (numbers_from 0 s.lists))) (if_letter ops 5 ((λ t. dedup t) ∷ []))
    (variants_of ops s.lists s.preds) c
are_counts_by ops n s c h = record {
  trees = h;
  proj = letter_length {X = SideTree → SideTree} ops 0 s.lists _ (one_length (λ a t. proj a t) s.lists);
  filter = letter_length {X = SideTree → SideTree} ops 1 (s.preds * s.lists) _ (two_length (λ p a t. filtered p a t) s.preds s.lists);
  inner_join = letter_length {X = SideTree → SideTree → SideTree} ops 2 (s.lists * s.lists) _ (two_length (λ a b t u. inner_join a b t u) s.lists s.lists);
  left_join = letter_length {X = SideTree → SideTree → SideTree} ops 3 (s.lists * s.lists) _ (two_length (λ a b t u. left_join a b t u) s.lists s.lists);
  in_sub = letter_length {X = SideTree → SideTree → SideTree} ops 4 s.lists _ (one_length (λ a t u. in_sub a t u) s.lists);
  dedup = omega (arith, letter_length {X = SideTree → SideTree} ops 5 1 ((λ t. dedup t) ∷ []) refl);
}

pub are_counts : (ops n : ℕ) (s : Symbols) (counts : List ℕ) → CountsDests ops s counts (suc n) →
    AreCounts (trees (side_leaves s) (makers ops s.lists s.preds) n) n (if_letter ops 0 (map (λ a t. proj a t) (numbers_from 0 s.lists)))
    (if_letter ops 1 (flat_map (λ p. map (λ a t. filtered p a t) (numbers_from 0 s.lists)) (numbers_from 0 s.preds)))
    (if_letter ops 2 (flat_map (λ a. map (λ b t u. inner_join a b t u) (numbers_from 0 s.lists)) (numbers_from 0 s.lists)))
    (if_letter ops 3 (flat_map (λ a. map (λ b t u. left_join a b t u) (numbers_from 0 s.lists)) (numbers_from 0 s.lists)))
    (if_letter ops 4 (map (λ a t u. in_sub a t u) (numbers_from 0 s.lists))) (if_letter ops 5 ((λ t. dedup t) ∷ []))
    (variants_of ops s.lists s.preds) (slice_index counts)
are_counts ops n s counts h =
    are_counts_by ops n s (slice_index counts)
    (λ i within. h.at i (omega arith) ∙ ap length (trees-bound (side_leaves s) (makers ops s.lists s.preds) i n i (omega arith) within))

module _ (ops n size k : ℕ) (s : Symbols) (counts : List ℕ) (v : Variants) (is : v ≡ variants_of ops s.lists s.preds) (next : size ≡ suc n) (counted : CountsDests ops s counts size) where
  up_to : CountsDests ops s counts (suc n)
  up_to = rw next at counted

  pub length_size : length (destinations_of_size ops s size) ≡ number_of_trees v (slice_index counts) n
  length_size = rw (next, is) (length_six _ n _ _ _ _ _ _ (variants_of ops s.lists s.preds) (slice_index counts) (are_counts ops n s counts up_to))

  -- no number of a tree is past all of them
  pub not_past : (rest : ℕ) → rest + number_of_trees v (slice_index counts) n ≡ k → k < length (destinations_of_size ops s size) → ⊥
  not_past rest e h = omega (arith, length_size)

  smaller_is : (i : ℕ) → i ≤ n → trees (side_leaves s) (makers ops s.lists s.preds) n i ≡ destinations_of_size ops s i
  smaller_is i h = trees-bound (side_leaves s) (makers ops s.lists s.preds) n i i h (omega arith)

  -- the destination at a number below their count
  at : (i j : ℕ) → i ≤ n → j < slice_index counts i → slice_get (destinations_of_size ops s i) j ≡ Some (get_or (destinations_of_size ops s i) j (input 0))
  at i j h within =
      let many : slice_index counts i ≡ length (destinations_of_size ops s i) = up_to.at i (omega arith) in
      slice_get-get_or (destinations_of_size ops s i) j (input 0) (omega arith)

  dedup_get : (w : ℕ) → w < bit_at ops 5 → slice_get {X = SideTree → SideTree} (if_letter ops 5 ((λ t. dedup t) ∷ [])) w ≡ Some (λ t. dedup t)
  dedup_get w h =
      let lt = bit_at-lt ops 5 in
      let bit : bit_at ops 5 ≡ 1 = omega arith in
      let first : w ≡ 0 = omega arith in
      rw (bit, first) refl

  pub found_proj : (o : OneOperand) (x : SideTree) → IsPlace v (slice_index counts) n (Proj o) × (number_of v (slice_index counts) n (Proj o) ≡ k) →
      slice_get (destinations_of_size ops s n) o.operand ≡ Some x → slice_get (destinations_of_size ops s size) k ≡ Some (proj o.variant x)
  found_proj o x found at_x =
      let place = rw is at found.0 in
      let number = rw is at found.1 in
      rw (next, ← number)
      (get_proj _ n _ _ _ _ _ _ (variants_of ops s.lists s.preds) (slice_index counts) (are_counts ops n s counts up_to) o (λ t. proj o.variant t) x
      (letter_get ops 0 s.lists o.variant _ _ place.variant (one_get (λ a t. proj a t) s.lists o.variant (letter_within ops 0 s.lists o.variant place.variant).1)) at_x)

  pub found_filter : (o : OneOperand) (x : SideTree) → IsPlace v (slice_index counts) n (Filter o) × (number_of v (slice_index counts) n (Filter o) ≡ k) →
      slice_get (destinations_of_size ops s n) o.operand ≡ Some x → slice_get (destinations_of_size ops s size) k ≡ Some (filtered (o.variant / s.lists) (o.variant % s.lists) x)
  found_filter o x found at_x =
      let place = rw is at found.0 in
      let number = rw is at found.1 in
      rw (next, ← number)
      (get_filter _ n _ _ _ _ _ _ (variants_of ops s.lists s.preds) (slice_index counts) (are_counts ops n s counts up_to) o (λ t. filtered (o.variant / s.lists) (o.variant % s.lists) t) x
      (letter_get ops 1 (s.preds * s.lists) o.variant _ _ place.variant (two_get (λ p a t. filtered p a t) s.preds s.lists o.variant (letter_within ops 1 (s.preds * s.lists) o.variant place.variant).1)) at_x)

  pub found_dedup : (o : OneOperand) (x : SideTree) → IsPlace v (slice_index counts) n (Dedup o) × (number_of v (slice_index counts) n (Dedup o) ≡ k) →
      slice_get (destinations_of_size ops s n) o.operand ≡ Some x → slice_get (destinations_of_size ops s size) k ≡ Some (dedup x)
  found_dedup o x found at_x =
      let place = rw is at found.0 in
      let number = rw is at found.1 in
      rw (next, ← number)
      (get_dedup _ n _ _ _ _ _ _ (variants_of ops s.lists s.preds) (slice_index counts) (are_counts ops n s counts up_to) o (λ t. dedup t) x
      (dedup_get o.variant place.variant) at_x)

  pub found_inner_join : (o : TwoOperands) (x y : SideTree) → IsPlace v (slice_index counts) n (InnerJoin o) × (number_of v (slice_index counts) n (InnerJoin o) ≡ k) →
      slice_get (destinations_of_size ops s o.left_size) o.left ≡ Some x → slice_get (destinations_of_size ops s (n - o.left_size)) o.right ≡ Some y →
      slice_get (destinations_of_size ops s size) k ≡ Some (inner_join (o.variant / s.lists) (o.variant % s.lists) x y)
  found_inner_join o x y found at_x at_y =
      let place = rw is at found.0 in
      let number = rw is at found.1 in
      rw (next, ← number)
      (get_inner_join _ n _ _ _ _ _ _ (variants_of ops s.lists s.preds) (slice_index counts) (are_counts ops n s counts up_to) o (λ t u. inner_join (o.variant / s.lists) (o.variant % s.lists) t u) x y place.size
      (letter_get ops 2 (s.lists * s.lists) o.variant _ _ place.variant (two_get (λ a b t u. inner_join a b t u) s.lists s.lists o.variant (letter_within ops 2 (s.lists * s.lists) o.variant place.variant).1))
      (rw (smaller_is o.left_size place.size) at_x) (rw (smaller_is (n - o.left_size) (omega arith)) at_y))

  pub found_left_join : (o : TwoOperands) (x y : SideTree) → IsPlace v (slice_index counts) n (LeftJoin o) × (number_of v (slice_index counts) n (LeftJoin o) ≡ k) →
      slice_get (destinations_of_size ops s o.left_size) o.left ≡ Some x → slice_get (destinations_of_size ops s (n - o.left_size)) o.right ≡ Some y →
      slice_get (destinations_of_size ops s size) k ≡ Some (left_join (o.variant / s.lists) (o.variant % s.lists) x y)
  found_left_join o x y found at_x at_y =
      let place = rw is at found.0 in
      let number = rw is at found.1 in
      rw (next, ← number)
      (get_left_join _ n _ _ _ _ _ _ (variants_of ops s.lists s.preds) (slice_index counts) (are_counts ops n s counts up_to) o (λ t u. left_join (o.variant / s.lists) (o.variant % s.lists) t u) x y place.size
      (letter_get ops 3 (s.lists * s.lists) o.variant _ _ place.variant (two_get (λ a b t u. left_join a b t u) s.lists s.lists o.variant (letter_within ops 3 (s.lists * s.lists) o.variant place.variant).1))
      (rw (smaller_is o.left_size place.size) at_x) (rw (smaller_is (n - o.left_size) (omega arith)) at_y))

  pub found_in_sub : (o : TwoOperands) (x y : SideTree) → IsPlace v (slice_index counts) n (InSub o) × (number_of v (slice_index counts) n (InSub o) ≡ k) →
      slice_get (destinations_of_size ops s o.left_size) o.left ≡ Some x → slice_get (destinations_of_size ops s (n - o.left_size)) o.right ≡ Some y →
      slice_get (destinations_of_size ops s size) k ≡ Some (in_sub o.variant x y)
  found_in_sub o x y found at_x at_y =
      let place = rw is at found.0 in
      let number = rw is at found.1 in
      rw (next, ← number)
      (get_in_sub _ n _ _ _ _ _ _ (variants_of ops s.lists s.preds) (slice_index counts) (are_counts ops n s counts up_to) o (λ t u. in_sub o.variant t u) x y place.size
      (letter_get ops 4 s.lists o.variant _ _ place.variant (one_get (λ a t u. in_sub a t u) s.lists o.variant (letter_within ops 4 s.lists o.variant place.variant).1))
      (rw (smaller_is o.left_size place.size) at_x) (rw (smaller_is (n - o.left_size) (omega arith)) at_y))

  -- a place is the number of a destination
  pub exists : (p : Place) → IsPlace v (slice_index counts) n p × (number_of v (slice_index counts) n p ≡ k) → k < length (destinations_of_size ops s size)
  exists (Proj o) found = slice_get_within _ _ _ (found_proj o _ found (at n o.operand (omega arith) (found.0).operand))
  exists (Filter o) found = slice_get_within _ _ _ (found_filter o _ found (at n o.operand (omega arith) (found.0).operand))
  exists (InnerJoin o) found =
      slice_get_within _ _ _
      (found_inner_join o _ _ found (at o.left_size o.left (found.0).size (found.0).left) (at (n - o.left_size) o.right (omega arith) (found.0).right))
  exists (LeftJoin o) found =
      slice_get_within _ _ _
      (found_left_join o _ _ found (at o.left_size o.left (found.0).size (found.0).left) (at (n - o.left_size) o.right (omega arith) (found.0).right))
  exists (InSub o) found =
      slice_get_within _ _ _
      (found_in_sub o _ _ found (at o.left_size o.left (found.0).size (found.0).left) (at (n - o.left_size) o.right (omega arith) (found.0).right))
  exists (Dedup o) found = slice_get_within _ _ _ (found_dedup o _ found (at n o.operand (omega arith) (found.0).operand))

  -- symbols of a place exist
  pub within_proj : (o : OneOperand) → IsPlace v (slice_index counts) n (Proj o) × (number_of v (slice_index counts) n (Proj o) ≡ k) → o.variant < s.lists
  within_proj o found = let place = rw is at found.0 in (letter_within ops 0 s.lists o.variant place.variant).1

  pub within_filter : (o : OneOperand) → IsPlace v (slice_index counts) n (Filter o) × (number_of v (slice_index counts) n (Filter o) ≡ k) → o.variant < s.preds * s.lists
  within_filter o found = let place = rw is at found.0 in (letter_within ops 1 (s.preds * s.lists) o.variant place.variant).1

  pub within_inner_join : (o : TwoOperands) → IsPlace v (slice_index counts) n (InnerJoin o) × (number_of v (slice_index counts) n (InnerJoin o) ≡ k) → o.variant < s.lists * s.lists
  within_inner_join o found = let place = rw is at found.0 in (letter_within ops 2 (s.lists * s.lists) o.variant place.variant).1

  pub within_left_join : (o : TwoOperands) → IsPlace v (slice_index counts) n (LeftJoin o) × (number_of v (slice_index counts) n (LeftJoin o) ≡ k) → o.variant < s.lists * s.lists
  within_left_join o found = let place = rw is at found.0 in (letter_within ops 3 (s.lists * s.lists) o.variant place.variant).1

  pub within_in_sub : (o : TwoOperands) → IsPlace v (slice_index counts) n (InSub o) × (number_of v (slice_index counts) n (InSub o) ≡ k) → o.variant < s.lists
  within_in_sub o found = let place = rw is at found.0 in (letter_within ops 4 s.lists o.variant place.variant).1

  -- a smaller size has its counts too
  pub counts_below : (i : ℕ) → i ≤ n → CountsDests ops s counts i
  counts_below i h = record { at = λ j within. counted.at j (omega arith) }

  pub exists_below : (i j : ℕ) → i ≤ n → j < slice_index counts i → j < length (destinations_of_size ops s i)
  exists_below i j h within = let many : slice_index counts i ≡ length (destinations_of_size ops s i) = counted.at i (omega arith) in omega arith

-- ---- destinations of size 0

pub no_operator : (ops k size : ℕ) (s : Symbols) → size ≡ 0 → k < length (destinations_of_size ops s size) →
    (k < s.leaves) × (slice_get (destinations_of_size ops s size) k ≡ Some (input k))
no_operator ops k size s none h =
    let at_zero = rw none at h in
    let many = one_length (λ r. input r) s.leaves in
    let within : k < s.leaves = omega (arith, at_zero, many) in
    (within, rw none (one_get (λ r. input r) s.leaves k within))

-- ---- destinations of all sizes

module _ (ops most : ℕ) (s : Symbols) (k : ℕ) where
  pub leaf_found : k < s.leaves → slice_get (destinations_over ops most s.leaves s.lists s.preds) k ≡ Some (input k)
  leaf_found h = get_left (side_leaves s) _ k (input k) (one_get (λ r. input r) s.leaves k h)

  pub past_leaves : s.leaves ≤ k →
      slice_get (flat_map (trees (side_leaves s) (makers ops s.lists s.preds) (0 + suc most)) (numbers_from 1 (most - 0))) (k - s.leaves)
      ≡ slice_get (destinations_over ops most s.leaves s.lists s.preds) k
  past_leaves h =
      let place : s.leaves + (k - s.leaves) ≡ k = omega arith in
      let whole : most - 0 ≡ most = omega arith in
      let right = get_right (side_leaves s) (flat_map (trees (side_leaves s) (makers ops s.lists s.preds) (0 + suc most)) (numbers_from 1 most)) s.leaves
      (k - s.leaves) (one_length (λ r. input r) s.leaves) in
      rw whole (sym (rw place at right))

module _ (ops most n rest k : ℕ) (s : Symbols) (within : n < most)
    (left : slice_get (flat_map (trees (side_leaves s) (makers ops s.lists s.preds) (0 + suc most)) (numbers_from (1 + n) (most - n))) rest
    ≡ slice_get (destinations_over ops most s.leaves s.lists s.preds) k) where
  sizes : flat_map (trees (side_leaves s) (makers ops s.lists s.preds) (0 + suc most)) (numbers_from (1 + n) (most - n))
      ≡ destinations_of_size ops s (n + 1) ++ flat_map (trees (side_leaves s) (makers ops s.lists s.preds) (0 + suc most)) (numbers_from (1 + (n + 1)) (most - (n + 1)))
  sizes =
      let more : most - n ≡ suc (most - (n + 1)) = omega arith in
      let first : 1 + n ≡ n + 1 = omega arith in
      let next : suc (n + 1) ≡ 1 + (n + 1) = omega arith in
      let bound : trees (side_leaves s) (makers ops s.lists s.preds) (0 + suc most) (n + 1) ≡ destinations_of_size ops s (n + 1) =
      trees-bound (side_leaves s) (makers ops s.lists s.preds) (0 + suc most) (n + 1) (n + 1) (omega arith) (omega arith) in
      rw (more, first, bound, next) refl

  pub found_now : (t : SideTree) → slice_get (destinations_of_size ops s (n + 1)) rest ≡ Some t → Some t ≡ slice_get (destinations_over ops most s.leaves s.lists s.preds) k
  found_now t h =
      sym (get_left (destinations_of_size ops s (n + 1)) _ rest t h) ∙ ap (λ xs. slice_get xs rest) (sym sizes) ∙ left

  pub found_later : (after : ℕ) → after + length (destinations_of_size ops s (n + 1)) ≡ rest →
      slice_get (flat_map (trees (side_leaves s) (makers ops s.lists s.preds) (0 + suc most)) (numbers_from (1 + (n + 1)) (most - (n + 1)))) after
      ≡ slice_get (destinations_over ops most s.leaves s.lists s.preds) k
  found_later after h =
      let place : length (destinations_of_size ops s (n + 1)) + after ≡ rest = omega arith in
      sym (get_right (destinations_of_size ops s (n + 1)) _ (length (destinations_of_size ops s (n + 1))) after refl)
      ∙ (rw place (ap (λ xs. slice_get xs rest) (sym sizes) ∙ left))

pub counts_first : (ops : ℕ) (s : Symbols) (counts : List ℕ) → counts ≡ s.leaves ∷ [] → CountsDests ops s counts 1
counts_first ops s counts e = record {
  at = λ i within.
      let first : i ≡ 0 = omega arith in
      rw (e, first) (sym (one_length (λ r. input r) s.leaves));
}

pub counts_next : (ops n count : ℕ) (s : Symbols) (counts : List ℕ) → CountsDests ops s counts (n + 1) → length counts ≡ n + 1 →
    count ≡ length (destinations_of_size ops s (n + 1)) → CountsDests ops s (counts ++ count ∷ []) (n + 1 + 1)
counts_next ops n count s counts h many is = record {
  at = λ i within.
      elim (cases_lt i (n + 1)) [
        | inl lt ↦ get_or_append_left counts (count ∷ []) 0 i (omega arith) ∙ h.at i lt
        | inr ge ↦
            let here : i ≡ n + 1 = omega arith in
            rw here (get_or_push counts count 0 (n + 1) many ∙ is)
      ];
}

pub passed : (ops n rest after : ℕ) (s : Symbols) (counts : List ℕ) (v : Variants) → v ≡ variants_of ops s.lists s.preds → CountsDests ops s counts (n + 1) →
    after + number_of_trees v (slice_index counts) n ≡ rest → after + length (destinations_of_size ops s (n + 1)) ≡ rest
passed ops n rest after s counts v is counted h =
    let many = length_size ops n (n + 1) rest s counts v is (omega arith) counted in
    omega (arith, many)
