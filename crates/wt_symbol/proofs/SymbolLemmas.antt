-- What the lawful tests say of symbols: small leaves, and an anchor for each list.
use Rattle.std.proofs.Common.{◌≡◌, ℕ, suc, ◌+◌, ◌*◌, ◌<◌, ◌≤◌, Bool, true, false, List, [], ◌∷◌, ◌++◌, length, Some, None, refl, arith, length-append}
use Rattle.std.specs.Prelude.{◌==◌, ◌&&◌, ◌||◌, nat_le}
use Rattle.std.proofs.lemmas.Grind.{common_steps}
use Rattle.wt_symbol.specs.declared.fault.PairFault.TheVariants.{Weight}
use Rattle.wt_symbol.specs.Sides.{SideTree, input, proj, filtered, inner_join, left_join, in_sub, dedup, PairTree, leaves_of, lists_of, preds_of, size_of, weight_of}
use Rattle.wt_symbol.specs.Lawful.{occurs, counts_up, all_in, all_different, is_numbered, uses_symbols_of, has_lawful_symbols, has_lawful_sizes, has_lawful_anchors, has_lawful_weights, stands, fault_of, IsLawful}
use Rattle.wt_symbol.specs.Heads.{HasAnchors, HasSmallLeaves}

-- each number of the list is below m
abbrev pub EachBelow : ℕ → List ℕ → Type 0
EachBelow m [] = Unit {0}
EachBelow m (x ∷ xs) = (x < m) × EachBelow m xs

below_append : (m : ℕ) (xs ys : List ℕ) → EachBelow m (xs ++ ys) → EachBelow m xs × EachBelow m ys
below_append m [] ys h = (tt, h)
below_append m (x ∷ xs) ys h = let rest = below_append m xs ys h.1 in ((h.0, rest.0), rest.1)

and_both : (b c : Bool) → (b && c) ≡ true → (b ≡ true) × (c ≡ true)
and_both true c h = (refl, h)
and_both false c h = cc

same_number : (x y : ℕ) → (x == y) ≡ true → x ≡ y
same_number x y h = grind (arith, common_steps)

pub counted_below : (m n : ℕ) (xs : List ℕ) → counts_up n xs ≡ true → n + length xs ≤ m → EachBelow m xs
counted_below m n [] h within = tt
counted_below m n (x ∷ xs) h within =
    let both = and_both (x == n) (counts_up (suc n) xs) h in
    let here : x ≡ n = same_number x n both.0 in
    (omega arith, counted_below m (suc n) xs both.1 (omega arith))

occurs_below : (m x : ℕ) (ys : List ℕ) → EachBelow m ys → occurs x ys ≡ true → x < m
occurs_below m x [] h o = cc
occurs_below m x (y ∷ ys) h o =
    elim (y == x) as (λ b. (y == x) ≡ b → (b || occurs x ys) ≡ true → x < m) [
      | true ↦ λ e g. let same : y ≡ x = same_number y x e in omega (arith, h.0)
      | false ↦ λ e g. occurs_below m x ys h.1 g
    ] refl o

pub among_below : (m : ℕ) (ys xs : List ℕ) → EachBelow m ys → all_in ys xs ≡ true → EachBelow m xs
among_below m ys [] h a = tt
among_below m ys (x ∷ xs) h a =
    let both = and_both (occurs x ys) (all_in ys xs) a in
    (occurs_below m x ys h both.0, among_below m ys xs h both.1)

pub small_leaves : (t : SideTree) → EachBelow 8 (leaves_of t) → HasSmallLeaves t
small_leaves (input r) h = h.0
small_leaves (proj a s) h = small_leaves s h
small_leaves (filtered p a s) h = small_leaves s h
small_leaves (inner_join a b s t) h = let parts = below_append 8 (leaves_of s) (leaves_of t) h in (small_leaves s parts.0, small_leaves t parts.1)
small_leaves (left_join a b s t) h = let parts = below_append 8 (leaves_of s) (leaves_of t) h in (small_leaves s parts.0, small_leaves t parts.1)
small_leaves (in_sub a s t) h = let parts = below_append 8 (leaves_of s) (leaves_of t) h in (small_leaves s parts.0, small_leaves t parts.1)
small_leaves (dedup s) h = small_leaves s h

pub has_anchors : (A : List ℕ) (t : SideTree) → EachBelow (length A) (lists_of t) → HasAnchors t A
has_anchors A (input r) h = tt
has_anchors A (proj a s) h = (h.0, has_anchors A s h.1)
has_anchors A (filtered p a s) h = (h.0, has_anchors A s h.1)
has_anchors A (inner_join a b s t) h =
    let parts = below_append (length A) (lists_of s) (lists_of t) h.1.1 in (h.0, h.1.0, has_anchors A s parts.0, has_anchors A t parts.1)
has_anchors A (left_join a b s t) h =
    let parts = below_append (length A) (lists_of s) (lists_of t) h.1.1 in (h.0, h.1.0, has_anchors A s parts.0, has_anchors A t parts.1)
has_anchors A (in_sub a s t) h =
    let parts = below_append (length A) (lists_of s) (lists_of t) h.1 in (h.0, has_anchors A s parts.0, has_anchors A t parts.1)
has_anchors A (dedup s) h = has_anchors A s h

-- a side has at most one leaf more than operators
pub length-leaves : (t : SideTree) → length (leaves_of t) ≤ 1 + size_of t
length-leaves (input r) = omega arith
length-leaves (proj a s) = omega (arith, length-leaves s)
length-leaves (filtered p a s) = omega (arith, length-leaves s)
length-leaves (inner_join a b s t) = omega (arith, length-leaves s, length-leaves t, length-append (leaves_of s) (leaves_of t))
length-leaves (left_join a b s t) = omega (arith, length-leaves s, length-leaves t, length-append (leaves_of s) (leaves_of t))
length-leaves (in_sub a s t) = omega (arith, length-leaves s, length-leaves t, length-append (leaves_of s) (leaves_of t))
length-leaves (dedup s) = omega (arith, length-leaves s)

-- no operator weighs more than 7
pub weight-le : (t : SideTree) → weight_of t ≤ 7 * size_of t
weight-le (input r) = omega arith
weight-le (proj a s) = omega (arith, weight-le s)
weight-le (filtered p a s) = omega (arith, weight-le s)
weight-le (inner_join a b s t) = omega (arith, weight-le s, weight-le t)
weight-le (left_join a b s t) = omega (arith, weight-le s, weight-le t)
weight-le (in_sub a s t) = omega (arith, weight-le s, weight-le t)
weight-le (dedup s) = omega (arith, weight-le s)

module _ (p : PairTree) (symbols : has_lawful_symbols p ≡ true) where
  parts : (is_numbered p.source ≡ true) × (length p.anchors ≡ length (lists_of p.source)) × (uses_symbols_of p.source p.dest ≡ true) × (all_different (leaves_of p.dest) ≡ true)
  parts =
      let three = and_both _ (all_different (leaves_of p.dest)) symbols in
      let two = and_both _ (uses_symbols_of p.source p.dest) three.0 in
      let one = and_both (is_numbered p.source) (length p.anchors == length (lists_of p.source)) two.0 in
      (one.0, same_number _ _ one.1, two.1, three.1)

  pub source_leaves : counts_up 0 (leaves_of p.source) ≡ true
  source_leaves = (and_both _ _ (and_both _ _ parts.0).0).0

  pub source_lists : counts_up 0 (lists_of p.source) ≡ true
  source_lists = (and_both _ _ (and_both _ _ parts.0).0).1

  pub source_preds : counts_up 0 (preds_of p.source) ≡ true
  source_preds = (and_both _ _ parts.0).1

  pub source_small : size_of p.source ≤ 7 → HasSmallLeaves p.source
  source_small h = small_leaves p.source (counted_below 8 0 (leaves_of p.source) source_leaves (omega (arith, length-leaves p.source)))

  pub source_anchored : HasAnchors p.source p.anchors
  source_anchored = has_anchors p.anchors p.source (counted_below (length p.anchors) 0 (lists_of p.source) source_lists (omega (arith, parts.1)))

  pub dest_small : size_of p.source ≤ 7 → HasSmallLeaves p.dest
  dest_small h =
      let of_source = counted_below 8 0 (leaves_of p.source) source_leaves (omega (arith, length-leaves p.source)) in
      small_leaves p.dest (among_below 8 (leaves_of p.source) (leaves_of p.dest) of_source (and_both _ _ (and_both _ _ parts.2).0).0)

  pub dest_anchored : HasAnchors p.dest p.anchors
  dest_anchored =
      let of_source = counted_below (length p.anchors) 0 (lists_of p.source) source_lists (omega (arith, parts.1)) in
      has_anchors p.anchors p.dest
      (among_below (length p.anchors) (lists_of p.source) (lists_of p.dest) of_source (and_both _ _ (and_both _ _ parts.2).0).1)

-- the tests before the weight pass, and the destination weighs as much
pub weight_fault : (p : PairTree) → has_lawful_symbols p ≡ true → size_of p.source ≤ 4 → size_of p.dest ≤ 4 → has_lawful_anchors p ≡ true →
    weight_of p.source ≤ weight_of p.dest → Some Weight ≡ fault_of p
weight_fault p symbols source dest anchors weights =
    let sizes : has_lawful_sizes p ≡ true = grind (arith, common_steps) in
    let heavy : has_lawful_weights p ≡ false = grind (arith, common_steps) in
    rw (symbols, sizes, anchors, heavy) refl

-- ---- lawful pairs

pub lawful_from_none : (p : PairTree) → fault_of p ≡ None → IsLawful p
lawful_from_none p h = record {
  symbols = grind (arith, common_steps);
  sizes = grind (arith, common_steps);
  anchors = grind (arith, common_steps);
  weights = grind (arith, common_steps);
  roots = grind (arith, common_steps);
}

pub none_from_lawful : (p : PairTree) → IsLawful p → fault_of p ≡ None
none_from_lawful p h = rw (h.symbols, h.sizes, h.anchors, h.weights, h.roots) refl

module _ (p : PairTree) (lawful : IsLawful p) where
  pub lawful_sizes : (size_of p.source ≤ 4) × (size_of p.dest ≤ 4)
  lawful_sizes =
      let both = and_both (nat_le (size_of p.source) 4) (nat_le (size_of p.dest) 4) lawful.sizes in
      let first = both.0 in
      let second = both.1 in
      (grind (arith, common_steps), grind (arith, common_steps))

  pub lawful_source_small : HasSmallLeaves p.source
  lawful_source_small = source_small p lawful.symbols (omega (arith, lawful_sizes.0))

  pub lawful_dest_small : HasSmallLeaves p.dest
  lawful_dest_small = dest_small p lawful.symbols (omega (arith, lawful_sizes.0))

  pub lawful_source_anchored : HasAnchors p.source p.anchors
  lawful_source_anchored = source_anchored p lawful.symbols

  pub lawful_dest_anchored : HasAnchors p.dest p.anchors
  lawful_dest_anchored = dest_anchored p lawful.symbols

  pub lawful_stands : (stands p.source p.anchors ≡ true) × (stands p.dest p.anchors ≡ true)
  lawful_stands = and_both (stands p.source p.anchors) (stands p.dest p.anchors) lawful.anchors
