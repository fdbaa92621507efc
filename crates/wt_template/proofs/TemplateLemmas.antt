-- The template at a place, and how many templates of one size there are.
use Rattle.std.proofs.Common.{◌≡◌, ℕ, zero, suc, ◌+◌, ◌-◌, ◌<◌, ◌≤◌, List, [], ◌∷◌, ◌++◌, map, length, slice_index, get_or, Some, None, inl, inr, refl, sym, ap, ◌∙◌, arith}
use Rattle.std.specs.List.{flat_map}
use Rattle.std.proofs.lemmas.Bool.{cases_lt}
use Rattle.std.proofs.lemmas.List.{get_or_append_left, get_or_push}
use Rattle.std.proofs.lemmas.Option.{slice_get-get_or, slice_get_within}
use Rattle.std.specs.Prelude.{slice_get}
use Rattle.std.specs.Int.{bit_at}
use Rattle.std.proofs.lemmas.Nat.Bits.{bit_at-lt}
use Rattle.wt_template.specs.declared.place.Place.{Place}
use Rattle.wt_template.specs.declared.place.Place.TheVariants.{Proj, Filter, InnerJoin, LeftJoin, InSub, Dedup}
use Rattle.wt_template.specs.declared.place.Variants.{Variants}
use Rattle.wt_template.specs.declared.place.OneOperand.{OneOperand}
use Rattle.wt_template.specs.declared.place.TwoOperands.{TwoOperands}
use Rattle.wt_template.specs.Order.{of_one, of_two, numbers_from, splits_from, over_two, under_root, trees}
use Rattle.wt_template.specs.Places.{IsPlace, number_of, number_of_trees, HasNone}
use Rattle.wt_template.specs.Shapes.{Shape, input, proj, filtered, inner_join, left_join, in_sub, dedup, if_letter, makers, templates, templates_of_size, variants_of, CountsTemplates}
use Rattle.wt_template.proofs.OrderLemmas.{get_left, get_right, trees-bound}
use Rattle.wt_template.proofs.RootLemmas.{AreCounts, length_six, get_proj, get_filter, get_inner_join, get_left_join, get_in_sub, get_dedup}

-- a letter's choice of one has as many elements as the letter's bit says
letter_length : {X : Type 0} (ops i : ℕ) (x : X) → bit_at ops i ≡ length (if_letter ops i (x ∷ []))
letter_length ops i x = grind (arith, bit_at-lt ops i)

letter_get : {X : Type 0} (ops i v : ℕ) (x : X) → v < bit_at ops i → slice_get (if_letter ops i (x ∷ [])) v ≡ Some x
letter_get ops i v x h =
    let lt = bit_at-lt ops i in
    let bit : bit_at ops i ≡ 1 = omega arith in
    let first : v ≡ 0 = omega arith in
    rw (bit, first) refl

pub are_counts : (ops n : ℕ) (counts : List ℕ) → CountsTemplates ops counts (suc n) →
    AreCounts (trees (input ∷ []) (makers ops) n) n (if_letter ops 0 (proj ∷ [])) (if_letter ops 1 (filtered ∷ [])) (if_letter ops 2 (inner_join ∷ []))
    (if_letter ops 3 (left_join ∷ [])) (if_letter ops 4 (in_sub ∷ [])) (if_letter ops 5 (dedup ∷ [])) (variants_of ops) (slice_index counts)
are_counts ops n counts h = record {
  trees = λ i within. h.at i (omega arith) ∙ ap length (trees-bound (input ∷ []) (makers ops) i n i (omega arith) within);
  proj = letter_length ops 0 proj;
  filter = letter_length ops 1 filtered;
  inner_join = letter_length ops 2 inner_join;
  left_join = letter_length ops 3 left_join;
  in_sub = letter_length ops 4 in_sub;
  dedup = letter_length ops 5 dedup;
}

module _ (ops n size k : ℕ) (counts : List ℕ) (v : Variants) (is : v ≡ variants_of ops) (next : size ≡ suc n) (counted : CountsTemplates ops counts size) where
  up_to : CountsTemplates ops counts (suc n)
  up_to = rw next at counted

  pub length_size : length (templates_of_size ops size) ≡ number_of_trees v (slice_index counts) n
  length_size = rw (next, is) (length_six _ n _ _ _ _ _ _ (variants_of ops) (slice_index counts) (are_counts ops n counts up_to))

  -- no number of a tree is past all of them
  pub not_past : (rest : ℕ) → rest + number_of_trees v (slice_index counts) n ≡ k → k < length (templates_of_size ops size) → ⊥
  not_past rest e h = omega (arith, length_size)

  smaller_is : (i : ℕ) → i ≤ n → trees (input ∷ []) (makers ops) n i ≡ templates_of_size ops i
  smaller_is i h = trees-bound (input ∷ []) (makers ops) n i i h (omega arith)

  -- the template at a number below their count
  at : (i j : ℕ) → i ≤ n → j < slice_index counts i → slice_get (templates_of_size ops i) j ≡ Some (get_or (templates_of_size ops i) j input)
  at i j h within =
      let many : slice_index counts i ≡ length (templates_of_size ops i) = up_to.at i (omega arith) in
      slice_get-get_or (templates_of_size ops i) j input (omega arith)

  pub found_proj : (o : OneOperand) (x : Shape) → IsPlace v (slice_index counts) n (Proj o) × (number_of v (slice_index counts) n (Proj o) ≡ k) →
      slice_get (templates_of_size ops n) o.operand ≡ Some x → slice_get (templates_of_size ops size) k ≡ Some (proj x)
  found_proj o x found at_x =
      let place = rw is at found.0 in
      let number = rw is at found.1 in
      rw (next, ← number)
      (get_proj _ n _ _ _ _ _ _ (variants_of ops) (slice_index counts) (are_counts ops n counts up_to) o proj x
      (letter_get ops 0 o.variant proj place.variant) at_x)

  pub found_filter : (o : OneOperand) (x : Shape) → IsPlace v (slice_index counts) n (Filter o) × (number_of v (slice_index counts) n (Filter o) ≡ k) →
      slice_get (templates_of_size ops n) o.operand ≡ Some x → slice_get (templates_of_size ops size) k ≡ Some (filtered x)
  found_filter o x found at_x =
      let place = rw is at found.0 in
      let number = rw is at found.1 in
      rw (next, ← number)
      (get_filter _ n _ _ _ _ _ _ (variants_of ops) (slice_index counts) (are_counts ops n counts up_to) o filtered x
      (letter_get ops 1 o.variant filtered place.variant) at_x)

  pub found_dedup : (o : OneOperand) (x : Shape) → IsPlace v (slice_index counts) n (Dedup o) × (number_of v (slice_index counts) n (Dedup o) ≡ k) →
      slice_get (templates_of_size ops n) o.operand ≡ Some x → slice_get (templates_of_size ops size) k ≡ Some (dedup x)
  found_dedup o x found at_x =
      let place = rw is at found.0 in
      let number = rw is at found.1 in
      rw (next, ← number)
      (get_dedup _ n _ _ _ _ _ _ (variants_of ops) (slice_index counts) (are_counts ops n counts up_to) o dedup x
      (letter_get ops 5 o.variant dedup place.variant) at_x)

  pub found_inner_join : (o : TwoOperands) (x y : Shape) → IsPlace v (slice_index counts) n (InnerJoin o) × (number_of v (slice_index counts) n (InnerJoin o) ≡ k) →
      slice_get (templates_of_size ops o.left_size) o.left ≡ Some x → slice_get (templates_of_size ops (n - o.left_size)) o.right ≡ Some y →
      slice_get (templates_of_size ops size) k ≡ Some (inner_join x y)
  found_inner_join o x y found at_x at_y =
      let place = rw is at found.0 in
      let number = rw is at found.1 in
      rw (next, ← number)
      (get_inner_join _ n _ _ _ _ _ _ (variants_of ops) (slice_index counts) (are_counts ops n counts up_to) o inner_join x y place.size
      (letter_get ops 2 o.variant inner_join place.variant)
      (rw (smaller_is o.left_size place.size) at_x) (rw (smaller_is (n - o.left_size) (omega arith)) at_y))

  pub found_left_join : (o : TwoOperands) (x y : Shape) → IsPlace v (slice_index counts) n (LeftJoin o) × (number_of v (slice_index counts) n (LeftJoin o) ≡ k) →
      slice_get (templates_of_size ops o.left_size) o.left ≡ Some x → slice_get (templates_of_size ops (n - o.left_size)) o.right ≡ Some y →
      slice_get (templates_of_size ops size) k ≡ Some (left_join x y)
  found_left_join o x y found at_x at_y =
      let place = rw is at found.0 in
      let number = rw is at found.1 in
      rw (next, ← number)
      (get_left_join _ n _ _ _ _ _ _ (variants_of ops) (slice_index counts) (are_counts ops n counts up_to) o left_join x y place.size
      (letter_get ops 3 o.variant left_join place.variant)
      (rw (smaller_is o.left_size place.size) at_x) (rw (smaller_is (n - o.left_size) (omega arith)) at_y))

  pub found_in_sub : (o : TwoOperands) (x y : Shape) → IsPlace v (slice_index counts) n (InSub o) × (number_of v (slice_index counts) n (InSub o) ≡ k) →
      slice_get (templates_of_size ops o.left_size) o.left ≡ Some x → slice_get (templates_of_size ops (n - o.left_size)) o.right ≡ Some y →
      slice_get (templates_of_size ops size) k ≡ Some (in_sub x y)
  found_in_sub o x y found at_x at_y =
      let place = rw is at found.0 in
      let number = rw is at found.1 in
      rw (next, ← number)
      (get_in_sub _ n _ _ _ _ _ _ (variants_of ops) (slice_index counts) (are_counts ops n counts up_to) o in_sub x y place.size
      (letter_get ops 4 o.variant in_sub place.variant)
      (rw (smaller_is o.left_size place.size) at_x) (rw (smaller_is (n - o.left_size) (omega arith)) at_y))

  -- a place is the number of a template
  pub exists : (p : Place) → IsPlace v (slice_index counts) n p × (number_of v (slice_index counts) n p ≡ k) → k < length (templates_of_size ops size)
  exists (Proj o) found = slice_get_within _ _ _ (found_proj o _ found (at n o.operand (omega arith) (found.0).operand))
  exists (Filter o) found = slice_get_within _ _ _ (found_filter o _ found (at n o.operand (omega arith) (found.0).operand))
  exists (InnerJoin o) found =
      slice_get_within _ _ _
      (found_inner_join o _ _ found (at o.left_size o.left (found.0).size (found.0).left) (at (n - o.left_size) o.right (omega arith) (found.0).right))
  exists (LeftJoin o) found =
      slice_get_within _ _ _
      (found_left_join o _ _ found (at o.left_size o.left (found.0).size (found.0).left) (at (n - o.left_size) o.right (omega arith) (found.0).right))
  exists (InSub o) found =
      slice_get_within _ _ _
      (found_in_sub o _ _ found (at o.left_size o.left (found.0).size (found.0).left) (at (n - o.left_size) o.right (omega arith) (found.0).right))
  exists (Dedup o) found = slice_get_within _ _ _ (found_dedup o _ found (at n o.operand (omega arith) (found.0).operand))

-- ---- a set without letters

flat_map_none : {X A : Type 0} (f : X → List A) → ((x : X) → f x ≡ []) → (xs : List X) → flat_map f xs ≡ []
flat_map_none f none [] = refl
flat_map_none f none (x ∷ xs) = rw (none x) (flat_map_none f none xs)

if_letter_none : {X : Type 0} (ops i : ℕ) (xs : List X) → bit_at ops i ≡ 0 → if_letter ops i xs ≡ []
if_letter_none ops i xs h = rw h refl

one_none : {X : Type 0} (smaller : ℕ → List X) (n : ℕ) (vs : List (X → X)) → vs ≡ [] → under_root smaller n (of_one vs) ≡ []
one_none {X = X} smaller n vs h = rw h (flat_map_none (λ x. map {A = X → X} (λ v. v x) []) (λ x. refl) (smaller n))

two_none : {X : Type 0} (smaller : ℕ → List X) (n : ℕ) (vs : List (X → X → X)) → vs ≡ [] → under_root smaller n (of_two vs) ≡ []
two_none {X = X} smaller n vs h =
    let inner : (xs ys : _) → over_two [] xs ys ≡ [] =
    λ xs ys. flat_map_none (λ x. flat_map (λ y. map {A = X → X → X} (λ v. v x y) []) ys)
    (λ x. flat_map_none (λ y. map {A = X → X → X} (λ v. v x y) []) (λ y. refl) ys) xs in
    rw h (flat_map_none (λ s. over_two [] (smaller s.0) (smaller s.1)) (λ s. inner (smaller s.0) (smaller s.1)) (splits_from 0 n))

size_none : (ops : ℕ) → HasNone (variants_of ops) → (b n : ℕ) → trees (input ∷ []) (makers ops) b (suc n) ≡ []
size_none ops h zero n = refl
size_none ops h (suc b) n =
    let p = one_none (trees (input ∷ []) (makers ops) b) n _ (if_letter_none ops 0 (proj ∷ []) h.proj) in
    let f = one_none (trees (input ∷ []) (makers ops) b) n _ (if_letter_none ops 1 (filtered ∷ []) h.filter) in
    let i = two_none (trees (input ∷ []) (makers ops) b) n _ (if_letter_none ops 2 (inner_join ∷ []) h.inner_join) in
    let l = two_none (trees (input ∷ []) (makers ops) b) n _ (if_letter_none ops 3 (left_join ∷ []) h.left_join) in
    let s = two_none (trees (input ∷ []) (makers ops) b) n _ (if_letter_none ops 4 (in_sub ∷ []) h.in_sub) in
    let d = one_none (trees (input ∷ []) (makers ops) b) n _ (if_letter_none ops 5 (dedup ∷ []) h.dedup) in
    rw (p, f, i, l, s, d) refl

sizes_none : (ops : ℕ) → HasNone (variants_of ops) → (b i m : ℕ) → flat_map (trees (input ∷ []) (makers ops) b) (numbers_from (suc i) m) ≡ []
sizes_none ops h b i zero = refl
sizes_none ops h b i (suc m) = rw (size_none ops h b i) (sizes_none ops h b (suc i) m)

pub no_letters : (ops most k : ℕ) (v : Variants) → v ≡ variants_of ops → HasNone v → None ≡ slice_get (templates ops most) k
no_letters ops most k v is h = let none = rw is at h in rw (sizes_none ops none (1 + most) 0 most) refl

-- ---- a turn of the loop over sizes

module _ (ops most n rest k : ℕ) (within : n < most) (left : slice_get (flat_map (trees (input ∷ []) (makers ops) (1 + most)) (numbers_from (1 + n) (most - n))) rest ≡ slice_get (templates ops most) k) where
  sizes : flat_map (trees (input ∷ []) (makers ops) (1 + most)) (numbers_from (1 + n) (most - n))
      ≡ templates_of_size ops (n + 1) ++ flat_map (trees (input ∷ []) (makers ops) (1 + most)) (numbers_from (1 + (n + 1)) (most - (n + 1)))
  sizes =
      let more : most - n ≡ suc (most - (n + 1)) = omega arith in
      let first : 1 + n ≡ n + 1 = omega arith in
      let next : suc (n + 1) ≡ 1 + (n + 1) = omega arith in
      let bound : trees (input ∷ []) (makers ops) (1 + most) (n + 1) ≡ templates_of_size ops (n + 1) =
      trees-bound (input ∷ []) (makers ops) (1 + most) (n + 1) (n + 1) (omega arith) (omega arith) in
      rw (more, first, bound, next) refl

  pub found_now : (t : Shape) → slice_get (templates_of_size ops (n + 1)) rest ≡ Some t → Some t ≡ slice_get (templates ops most) k
  found_now t h =
      sym (get_left (templates_of_size ops (n + 1)) _ rest t h) ∙ ap (λ xs. slice_get xs rest) (sym sizes) ∙ left

  pub found_later : (after : ℕ) → after + length (templates_of_size ops (n + 1)) ≡ rest →
      slice_get (flat_map (trees (input ∷ []) (makers ops) (1 + most)) (numbers_from (1 + (n + 1)) (most - (n + 1)))) after ≡ slice_get (templates ops most) k
  found_later after h =
      let place : length (templates_of_size ops (n + 1)) + after ≡ rest = omega arith in
      sym (get_right (templates_of_size ops (n + 1)) _ (length (templates_of_size ops (n + 1))) after refl)
      ∙ (rw place (ap (λ xs. slice_get xs rest) (sym sizes) ∙ left))

pub counts_next : (ops n count : ℕ) (counts : List ℕ) → CountsTemplates ops counts (n + 1) → length counts ≡ n + 1 →
    count ≡ length (templates_of_size ops (n + 1)) → CountsTemplates ops (counts ++ count ∷ []) (n + 1 + 1)
counts_next ops n count counts h many is = record {
  at = λ i within.
      elim (cases_lt i (n + 1)) [
        | inl lt ↦ get_or_append_left counts (count ∷ []) 0 i (omega arith) ∙ h.at i lt
        | inr ge ↦
            let here : i ≡ n + 1 = omega arith in
            rw here (get_or_push counts count 0 (n + 1) many ∙ is)
      ];
}

-- what is left of a number is as much smaller as there are templates of the size that was passed
pub passed : (ops n rest after : ℕ) (counts : List ℕ) (v : Variants) → v ≡ variants_of ops → CountsTemplates ops counts (n + 1) →
    after + number_of_trees v (slice_index counts) n ≡ rest → after + length (templates_of_size ops (n + 1)) ≡ rest
passed ops n rest after counts v is counted h =
    let many = length_size ops n (n + 1) rest counts v is (omega arith) counted in
    omega (arith, many)
