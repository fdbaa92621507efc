-- The symbols of lawful pairs and of their atoms are small.
use Rattle.std.proofs.Common.{◌≡◌, ℕ, zero, suc, ◌+◌, ◌*◌, ◌<◌, ◌≤◌, min, Bool, true, false, List, [], ◌∷◌, ◌++◌, map, length, drop, refl, sym, ap, ◌∙◌, arith, length-append}
use Rattle.std.specs.Prelude.{◌&&◌, ◌==◌, slice_index}
use Rattle.std.specs.Option.{option_to_list, option_map}
use Rattle.std.proofs.lemmas.Grind.{common_steps}
use Rattle.std.proofs.lemmas.List.{drop_all, drop_more}
use Rattle.wt_bag.specs.Bags.{Each}
use Rattle.wt_symbol.specs.Sides as sides
use Rattle.wt_symbol.specs.Sides.{SideTree, PairTree, leaves_of, lists_of, preds_of, size_of, weight_of}
use Rattle.wt_symbol.specs.Lawful.{counts_up, all_in, IsLawful}
use Rattle.wt_symbol.specs.Heads.{anchor}
use Rattle.wt_symbol.proofs.SymbolLemmas.{EachBelow, counted_below, among_below, length-leaves, lawful_sizes}
use Rattle.wt_constraint.specs.declared.atom.Atom.{Atom}
use Rattle.wt_constraint.specs.declared.atom.Atom.TheVariants.{Unique, NotNull, RefAttrs}
use Rattle.wt_constraint.specs.declared.atom.Kind.{Kind}
use Rattle.wt_constraint.specs.declared.atom.Kind.TheVariants.{Leaves, Lists, Preds}
use Rattle.wt_constraint.specs.Atoms.{equal, each_two, key_lists_of, root_list, references_of, atoms_over}
use Rattle.wt_rule_line.specs.Pairs.{in_byte}
use Rattle.wt_rule_line.proofs.Bytes.{anchor_bytes}
use Rattle.wt_rule_written.proofs.Fine.{Small, small_proj, small_filter, small_join, small_left, small_in, small_dedup, SmallAtom}

-- ---- anchors by number

and_both : (b c : Bool) → (b && c) ≡ true → (b ≡ true) × (c ≡ true)
and_both true c h = (refl, h)
and_both false c h = absurd (cc)

same_number : (x y : ℕ) → (x == y) ≡ true → x ≡ y
same_number x y h = grind (arith, common_steps)

by_count : (k : ℕ) (xs A : List ℕ) → counts_up k xs ≡ true → length A ≡ k + length xs → map (slice_index A) xs ≡ drop k A
by_count k [] A up count = sym (drop_all k A (omega arith))
by_count k (x ∷ xs) A up count =
    let parts = and_both (x == k) (counts_up (suc k) xs) up in
    let here = same_number x k parts.0 in
    let next = drop_more A k 0 (omega arith) in
    let rest = by_count (suc k) xs A parts.1 (omega arith) in
    ap (λ y. slice_index A y ∷ map (slice_index A) xs) here ∙ ap (λ l. slice_index A k ∷ l) (rest ∙ ap (λ n. drop n A) (let e : suc k ≡ k + 1 = omega arith in e)) ∙ sym next

-- ---- lawful pairs

length-lists : (s : SideTree) → length (lists_of s) ≤ 2 * size_of s
length-lists (sides.input r) = omega arith
length-lists (sides.proj a s) = omega (arith, length-lists s)
length-lists (sides.filtered p a s) = omega (arith, length-lists s)
length-lists (sides.inner_join a b s t) = omega (arith, length-lists s, length-lists t, length-append (lists_of s) (lists_of t))
length-lists (sides.left_join a b s t) = omega (arith, length-lists s, length-lists t, length-append (lists_of s) (lists_of t))
length-lists (sides.in_sub a s t) = omega (arith, length-lists s, length-lists t, length-append (lists_of s) (lists_of t))
length-lists (sides.dedup s) = omega (arith, length-lists s)

length-preds : (s : SideTree) → length (preds_of s) ≤ size_of s
length-preds (sides.input r) = omega arith
length-preds (sides.proj a s) = omega (arith, length-preds s)
length-preds (sides.filtered p a s) = omega (arith, length-preds s)
length-preds (sides.inner_join a b s t) = omega (arith, length-preds s, length-preds t, length-append (preds_of s) (preds_of t))
length-preds (sides.left_join a b s t) = omega (arith, length-preds s, length-preds t, length-append (preds_of s) (preds_of t))
length-preds (sides.in_sub a s t) = omega (arith, length-preds s, length-preds t, length-append (preds_of s) (preds_of t))
length-preds (sides.dedup s) = omega (arith, length-preds s)

pub weight-le : (s : SideTree) → weight_of s ≤ 7 * size_of s
weight-le (sides.input r) = omega arith
weight-le (sides.proj a s) = omega (arith, weight-le s)
weight-le (sides.filtered p a s) = omega (arith, weight-le s)
weight-le (sides.inner_join a b s t) = omega (arith, weight-le s, weight-le t)
weight-le (sides.left_join a b s t) = omega (arith, weight-le s, weight-le t)
weight-le (sides.in_sub a s t) = omega (arith, weight-le s, weight-le t)
weight-le (sides.dedup s) = omega (arith, weight-le s)

bytes_below : (A : List ℕ) → map in_byte A ≡ A → (a : ℕ) → slice_index A a < 256
bytes_below [] is a = omega arith
bytes_below (x ∷ A) is zero = let e : min x 255 ≡ x = cc in omega arith
bytes_below (x ∷ A) is (suc a) = bytes_below A (let e : map in_byte A ≡ A = cc in e) a

module _ (p : PairTree) (lawful : IsLawful p) where
  known : (counts_up 0 (leaves_of p.source) ≡ true) × (counts_up 0 (lists_of p.source) ≡ true) × (counts_up 0 (preds_of p.source) ≡ true)
      × (all_in (leaves_of p.source) (leaves_of p.dest) ≡ true) × (all_in (lists_of p.source) (lists_of p.dest) ≡ true) × (all_in (preds_of p.source) (preds_of p.dest) ≡ true)
      × (length p.anchors ≡ length (lists_of p.source))
  known =
      let h3 = and_both _ _ lawful.symbols in
      let h2 = and_both _ _ h3.0 in
      let h1 = and_both _ _ h2.0 in
      let n2 = and_both _ _ h1.0 in
      let n1 = and_both _ _ n2.0 in
      let u2 = and_both _ _ h2.1 in
      let u1 = and_both _ _ u2.0 in
      (n1.0, n1.1, n2.1, u1.0, u1.1, u2.1, same_number (length p.anchors) (length (lists_of p.source)) h1.1)

  pub source_small : Small p.source
  source_small =
      let size = (lawful_sizes p lawful).0 in
      record {
        leaves = counted_below 256 0 (leaves_of p.source) known.0 (omega (arith, size, length-leaves p.source));
        lists = counted_below 256 0 (lists_of p.source) known.1 (omega (arith, size, length-lists p.source));
        preds = counted_below 256 0 (preds_of p.source) known.2 (omega (arith, size, length-preds p.source));
      }

  pub dest_small : Small p.dest
  dest_small = record {
    leaves = among_below 256 (leaves_of p.source) (leaves_of p.dest) source_small.leaves known.3;
    lists = among_below 256 (lists_of p.source) (lists_of p.dest) source_small.lists known.4;
    preds = among_below 256 (preds_of p.source) (preds_of p.dest) source_small.preds known.5;
  }

  pub anchors_small : (a : ℕ) → anchor p.anchors a < 256
  anchors_small = let sizes = lawful_sizes p lawful in bytes_below p.anchors (anchor_bytes p lawful sizes.0 sizes.1)

  pub all_anchors : map (slice_index p.anchors) (lists_of p.source) ≡ p.anchors
  all_anchors = by_count 0 (lists_of p.source) p.anchors known.1 (omega (arith, known.6))

-- ---- atoms

each_append : (P : Atom → Type 0) (xs ys : List Atom) → Each P xs → Each P ys → Each P (xs ++ ys)
each_append P [] ys h g = g
each_append P (x ∷ xs) ys h g = (h.0, each_append P xs ys h.1 g)

module _ (A : List ℕ) (below : (a : ℕ) → anchor A a < 256) where
  equal_small : (kind : Kind) (x y : ℕ) → x < 256 → y < 256 → SmallAtom A (equal kind x y)
  equal_small Leaves x y h g = (h, g)
  equal_small Lists x y h g = (h, g)
  equal_small Preds x y h g = (h, g)

  equals_small : (kind : Kind) (x : ℕ) (ys : List ℕ) → x < 256 → EachBelow 256 ys → Each (SmallAtom A) (map (equal kind x) ys)
  equals_small kind x [] h g = tt
  equals_small kind x (y ∷ ys) h g = (equal_small kind x y h g.0, equals_small kind x ys h g.1)

  two_small : (kind : Kind) (xs : List ℕ) → EachBelow 256 xs → Each (SmallAtom A) (each_two kind xs)
  two_small kind [] h = tt
  two_small kind (x ∷ xs) h = each_append (SmallAtom A) (map (equal kind x) xs) (each_two kind xs) (equals_small kind x xs h.0 h.1) (two_small kind xs h.1)

  uniques_small : (xs : List ℕ) → EachBelow 256 xs → Each (SmallAtom A) (map Unique xs)
  uniques_small [] h = tt
  uniques_small (x ∷ xs) h = ((h.0, below x), uniques_small xs h.1)

  not_nulls_small : (xs : List ℕ) → EachBelow 256 xs → Each (SmallAtom A) (map NotNull xs)
  not_nulls_small [] h = tt
  not_nulls_small (x ∷ xs) h = ((h.0, below x), not_nulls_small xs h.1)

  append_below : (xs ys : List ℕ) → EachBelow 256 xs → EachBelow 256 ys → EachBelow 256 (xs ++ ys)
  append_below [] ys h g = g
  append_below (x ∷ xs) ys h g = (h.0, append_below xs ys h.1 g)

  keys_small : (s : SideTree) → Small s → EachBelow 256 (key_lists_of s)
  keys_small (sides.input r) h = tt
  keys_small (sides.proj a s) h = let (x, rest) = small_proj a s h in (x, keys_small s rest)
  keys_small (sides.filtered p a s) h = let (x, y, rest) = small_filter p a s h in keys_small s rest
  keys_small (sides.inner_join a b s t) h = let (x, y, l, r) = small_join a b s t h in (x, (y, append_below (key_lists_of s) (key_lists_of t) (keys_small s l) (keys_small t r)))
  keys_small (sides.left_join a b s t) h = let (x, y, l, r) = small_join a b s t (small_left a b s t h) in (x, (y, append_below (key_lists_of s) (key_lists_of t) (keys_small s l) (keys_small t r)))
  keys_small (sides.in_sub a s t) h = let (x, l, r) = small_in a s t h in (x, append_below (key_lists_of s) (key_lists_of t) (keys_small s l) (keys_small t r))
  keys_small (sides.dedup s) h = keys_small s (small_dedup s h)

  root_small : (a : ℕ) (t : SideTree) → a < 256 → Small t → Each (SmallAtom A) (option_to_list (option_map (RefAttrs a) (root_list t)))
  root_small a (sides.input r) x h = tt
  root_small a (sides.proj b s) x h = ((x, below a, (small_proj b s h).0, below b), tt)
  root_small a (sides.filtered p b s) x h = tt
  root_small a (sides.inner_join b c s t) x h = tt
  root_small a (sides.left_join b c s t) x h = tt
  root_small a (sides.in_sub b s t) x h = tt
  root_small a (sides.dedup s) x h = tt

  refs_small : (s : SideTree) → Small s → Each (SmallAtom A) (references_of s)
  refs_small (sides.input r) h = tt
  refs_small (sides.proj a s) h = refs_small s (small_proj a s h).1
  refs_small (sides.filtered p a s) h = refs_small s (small_filter p a s h).2
  refs_small (sides.inner_join a b s t) h =
      let (x, y, l, r) = small_join a b s t h in
      ((x, below a, y, below b), ((y, below b, x, below a), each_append (SmallAtom A) (references_of s) (references_of t) (refs_small s l) (refs_small t r)))
  refs_small (sides.left_join a b s t) h =
      let (x, y, l, r) = small_join a b s t (small_left a b s t h) in
      ((x, below a, y, below b), each_append (SmallAtom A) (references_of s) (references_of t) (refs_small s l) (refs_small t r))
  refs_small (sides.in_sub a s t) h =
      let (x, l, r) = small_in a s t h in
      each_append (SmallAtom A) (option_to_list (option_map (RefAttrs a) (root_list t))) (references_of s ++ references_of t) (root_small a t x r)
      (each_append (SmallAtom A) (references_of s) (references_of t) (refs_small s l) (refs_small t r))
  refs_small (sides.dedup s) h = refs_small s (small_dedup s h)

  pub all_small : (s : SideTree) → Small s → Each (SmallAtom A) (atoms_over s)
  all_small s h =
      let P = SmallAtom A in
      each_append P _ (references_of s)
      (each_append P _ (map NotNull (key_lists_of s))
      (each_append P _ (map Unique (key_lists_of s))
      (each_append P _ (each_two Preds (preds_of s)) (each_append P (each_two Leaves (leaves_of s)) (each_two Lists (lists_of s)) (two_small Leaves (leaves_of s) h.leaves) (two_small Lists (lists_of s) h.lists)) (two_small Preds (preds_of s) h.preds))
      (uniques_small (key_lists_of s) (keys_small s h)))
      (not_nulls_small (key_lists_of s) (keys_small s h)))
      (refs_small s h)
