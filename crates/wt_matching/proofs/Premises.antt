-- What a match of a lawful pair at a node of a regular plan gives: its symbols are covered, its leaves fit, its lists are filled and
-- have places, and a join's lists are equally long.
use Rattle.std.proofs.Common.{◌≡◌, ◌≢◌, ℕ, suc, ◌+◌, ◌<◌, ◌≤◌, Bool, true, false, List, [], ◌∷◌, ◌++◌, map, length, refl, sym, ap, ◌∙◌, subst, inl, inr, arith}
use Rattle.std.specs.Prelude.{◌==◌, ◌&&◌, not, nat_lt, slice_get, slice_index_or, Some, Option, None, if◌then◌else◌}
use Rattle.std.specs.Option.{option_map, option_to_list}
use Rattle.std.proofs.lemmas.Bool.{false≢true, cases_lt}
use Rattle.std.proofs.lemmas.Grind.{common_steps}
use Rattle.std.proofs.lemmas.List.{get_or_past}
use Rattle.wt_bag.specs.Bags.{Each}
use Rattle.wt_bag.specs.Choices.{Apart, Has}
use Rattle.wt_bag.proofs.EachLaws.{each_append, each_map, each_of_map, each_implies}
use Rattle.wt_bag.proofs.HasLaws.{each_from_has, has_left, has_right, has_split, has_list_any, list_any_has}
use Rattle.wt_bag.proofs.UniqueLists.{each_get, each_has}
use Rattle.wt_bag.proofs.Counting.{each_from_list_all}
use Rattle.wt_symbol.specs.Sides as sides
use Rattle.wt_symbol.specs.Sides.{SideTree, PairTree, leaves_of, lists_of, preds_of}
use Rattle.wt_symbol.specs.Lawful.{occurs, counts_up, all_in, all_different, visible_leaves, sees, stands, IsLawful, uses_symbols_of}
use Rattle.wt_symbol.specs.Heads.{anchor}
use Rattle.wt_symbol.proofs.SymbolLemmas.{EachBelow, counted_below, among_below, source_leaves, source_lists, source_preds, lawful_stands}
use Rattle.wt_schema.specs.declared.schema.Table.{Table}
use Rattle.wt_constraint.specs.declared.atom.Atom.{Atom}
use Rattle.wt_constraint.specs.declared.atom.Atom.TheVariants.{Unique, NotNull, RefAttrs}
use Rattle.wt_constraint.specs.declared.atom.Kind.TheVariants.{Leaves, Lists, Preds}
use Rattle.wt_constraint.specs.Atoms.{each_two, key_lists_of, root_list, references_of, atoms_over}
use Rattle.wt_instance.specs.Meeting.{comes_from, lists_come}
use Rattle.wt_plan.specs.Tree as plans
use Rattle.wt_plan.specs.Tree.{PlanTree}
use Rattle.wt_plan.specs.Measures.{width}
use Rattle.wt_plan.specs.WellFormed.{PlacesFit}
use Rattle.wt_plan.proofs.Upto.{length_map}
use Rattle.wt_known.specs.Fitting.{Fits}
use Rattle.wt_known.proofs.Agreeing.{and_parts, eq_true, lt_true}
use Rattle.wt_matching.specs.Filling.{Assigned, leaf_plan, list_of, shape, header, place, places, fill}
use Rattle.wt_matching.specs.Finding.{IsPlaced, ArePlaced}
use Rattle.wt_matching.specs.Matching.{HasEach}
use Rattle.wt_matching.proofs.Assigning.{Covers, AtomCovered}
use Rattle.wt_matching.proofs.FillLaws.{fill_width}
use Rattle.wt_matching.proofs.WidthLaws.{AreEven}
use Rattle.wt_matching.proofs.Lists.{index_map}

-- numbers below a bound, of two lists one after the other
below_left : (m : ℕ) (xs ys : List ℕ) → EachBelow m (xs ++ ys) → EachBelow m xs
below_left m [] ys h = tt
below_left m (x ∷ xs) ys h = (h.0, below_left m xs ys h.1)

below_right : (m : ℕ) (xs ys : List ℕ) → EachBelow m (xs ++ ys) → EachBelow m ys
below_right m [] ys h = h
below_right m (x ∷ xs) ys h = below_right m xs ys h.1

below_has : (m : ℕ) (xs : List ℕ) (x : ℕ) → EachBelow m xs → Has x xs → x < m
below_has m [] x h k = absurd k
below_has m (y ∷ xs) x h (inl e) = subst (λ z. z < m) (sym e) h.0
below_has m (y ∷ xs) x h (inr k) = below_has m xs x h.1 k

-- The symbols of a side are covered where their numbers are small.
covers : (m : Assigned) (s : SideTree) → EachBelow (length m.leaves) (leaves_of s) → EachBelow (length m.lists) (lists_of s) → EachBelow (length m.preds) (preds_of s) → Covers m s
covers m (sides.input r) l k q = l.0
covers m (sides.proj a s) l k q = (k.0, covers m s l k.1 q)
covers m (sides.filtered p a s) l k q = (q.0, k.0, covers m s l k.1 q.1)
covers m (sides.inner_join a b s t) l k q = (
  k.0,
  k.1.0,
  covers m s (below_left _ (leaves_of s) (leaves_of t) l) (below_left _ (lists_of s) (lists_of t) k.1.1) (below_left _ (preds_of s) (preds_of t) q),
  covers m t (below_right _ (leaves_of s) (leaves_of t) l) (below_right _ (lists_of s) (lists_of t) k.1.1) (below_right _ (preds_of s) (preds_of t) q),
)
covers m (sides.left_join a b s t) l k q = (
  k.0,
  k.1.0,
  covers m s (below_left _ (leaves_of s) (leaves_of t) l) (below_left _ (lists_of s) (lists_of t) k.1.1) (below_left _ (preds_of s) (preds_of t) q),
  covers m t (below_right _ (leaves_of s) (leaves_of t) l) (below_right _ (lists_of s) (lists_of t) k.1.1) (below_right _ (preds_of s) (preds_of t) q),
)
covers m (sides.in_sub a s t) l k q = (
  k.0,
  covers m s (below_left _ (leaves_of s) (leaves_of t) l) (below_left _ (lists_of s) (lists_of t) k.1) (below_left _ (preds_of s) (preds_of t) q),
  covers m t (below_right _ (leaves_of s) (leaves_of t) l) (below_right _ (lists_of s) (lists_of t) k.1) (below_right _ (preds_of s) (preds_of t) q),
)
covers m (sides.dedup s) l k q = covers m s l k q

module _ (p : PairTree) (lawful : IsLawful p) (m : Assigned) (each : HasEach p m) where
  leaves_below : EachBelow (length m.leaves) (leaves_of p.source)
  leaves_below = counted_below (length m.leaves) 0 (leaves_of p.source) (source_leaves p lawful.symbols) (omega (arith, each.leaves))

  lists_below : EachBelow (length m.lists) (lists_of p.source)
  lists_below = counted_below (length m.lists) 0 (lists_of p.source) (source_lists p lawful.symbols) (omega (arith, each.lists))

  preds_below : EachBelow (length m.preds) (preds_of p.source)
  preds_below = counted_below (length m.preds) 0 (preds_of p.source) (source_preds p lawful.symbols) (omega (arith, each.preds))

  -- the destination's symbols are the source's
  uses : uses_symbols_of p.source p.dest ≡ true
  uses = (and_parts _ (uses_symbols_of p.source p.dest) (and_parts _ (all_different (leaves_of p.dest)) lawful.symbols).0).1

  pub source_covered : Covers m p.source
  source_covered = covers m p.source leaves_below lists_below preds_below

  pub dest_covered : Covers m p.dest
  dest_covered =
      let two = and_parts (all_in (leaves_of p.source) (leaves_of p.dest) && all_in (lists_of p.source) (lists_of p.dest)) (all_in (preds_of p.source) (preds_of p.dest)) uses in
      let one = and_parts (all_in (leaves_of p.source) (leaves_of p.dest)) (all_in (lists_of p.source) (lists_of p.dest)) two.0 in
      covers m p.dest (among_below _ (leaves_of p.source) (leaves_of p.dest) leaves_below one.0) (among_below _ (lists_of p.source) (lists_of p.dest) lists_below one.1)
      (among_below _ (preds_of p.source) (preds_of p.dest) preds_below two.1)

-- Anchors: each list's is one of the leaves.
number_has : (r : ℕ) (xs : List ℕ) → occurs r xs ≡ true → Has r xs
number_has r xs h = let found = has_list_any (λ y. y == r) xs h in subst (λ z. Has z xs) (eq_true found.0 r found.2) found.1

both_or : {X : Type 0} (x : X) (xs ys vs ws : List X) → (Has x xs → Has x vs) → (Has x ys → Has x ws) → Has x (xs ++ ys) → Has x (vs ++ ws)
both_or x xs ys vs ws f g h = elim (has_split x xs ys h) [ inl k ↦ has_left x vs ws (f k) | inr k ↦ has_right x vs ws (g k) ]

visible_is_leaf : (s : SideTree) (A : List ℕ) → stands s A ≡ true → (r : ℕ) → Has r (visible_leaves s A) → Has r (leaves_of s)
visible_is_leaf (sides.input x) A st r h = h
visible_is_leaf (sides.proj a s) A st r (inl e) = let parts = and_parts (stands s A) (sees s A a) st in visible_is_leaf s A parts.0 r (subst (λ z. Has z (visible_leaves s A)) (sym e) (number_has _ (visible_leaves s A) parts.1))
visible_is_leaf (sides.proj a s) A st r (inr h) = absurd h
visible_is_leaf (sides.filtered p a s) A st r h = visible_is_leaf s A (and_parts (stands s A) (sees s A a) st).0 r h
visible_is_leaf (sides.inner_join a b s t) A st r h =
    let all = and_parts (stands s A && stands t A && sees s A a) (sees t A b) st in let some = and_parts (stands s A && stands t A) (sees s A a) all.0 in let both = and_parts (stands s A) (stands t A) some.0 in
    both_or r (visible_leaves s A) (visible_leaves t A) (leaves_of s) (leaves_of t) (visible_is_leaf s A both.0 r) (visible_is_leaf t A both.1 r) h
visible_is_leaf (sides.left_join a b s t) A st r h =
    let all = and_parts (stands s A && stands t A && sees s A a) (sees t A b) st in let some = and_parts (stands s A && stands t A) (sees s A a) all.0 in let both = and_parts (stands s A) (stands t A) some.0 in
    both_or r (visible_leaves s A) (visible_leaves t A) (leaves_of s) (leaves_of t) (visible_is_leaf s A both.0 r) (visible_is_leaf t A both.1 r) h
visible_is_leaf (sides.in_sub a s t) A st r h =
    let some = and_parts (stands s A && stands t A) (sees s A a) st in let both = and_parts (stands s A) (stands t A) some.0 in
    has_left r (leaves_of s) (leaves_of t) (visible_is_leaf s A both.0 r h)
visible_is_leaf (sides.dedup s) A st r h = visible_is_leaf s A st r h

-- each list of the side is anchored at one of its leaves
abbrev AnchoredIn : List ℕ → List ℕ → ℕ → Type 0
AnchoredIn A leaves a = Has (anchor A a) leaves

wider : (A xs ys : List ℕ) (as' : List ℕ) → ((r : ℕ) → Has r xs → Has r ys) → Each (AnchoredIn A xs) as' → Each (AnchoredIn A ys) as'
wider A xs ys as' f h = each_implies (AnchoredIn A xs) (AnchoredIn A ys) as' (λ a k. f (anchor A a) k) h

anchored : (s : SideTree) (A : List ℕ) → stands s A ≡ true → Each (AnchoredIn A (leaves_of s)) (lists_of s)
anchored (sides.input x) A st = tt
anchored (sides.proj a s) A st = let parts = and_parts (stands s A) (sees s A a) st in (visible_is_leaf s A parts.0 _ (number_has _ (visible_leaves s A) parts.1), anchored s A parts.0)
anchored (sides.filtered p a s) A st = let parts = and_parts (stands s A) (sees s A a) st in (visible_is_leaf s A parts.0 _ (number_has _ (visible_leaves s A) parts.1), anchored s A parts.0)
anchored (sides.inner_join a b s t) A st =
    let all = and_parts (stands s A && stands t A && sees s A a) (sees t A b) st in let some = and_parts (stands s A && stands t A) (sees s A a) all.0 in let both = and_parts (stands s A) (stands t A) some.0 in (
      has_left _ (leaves_of s) (leaves_of t) (visible_is_leaf s A both.0 _ (number_has _ (visible_leaves s A) some.1)),
      (
        has_right _ (leaves_of s) (leaves_of t) (visible_is_leaf t A both.1 _ (number_has _ (visible_leaves t A) all.1)),
        each_append _ (lists_of s) (lists_of t) (wider A (leaves_of s) (leaves_of s ++ leaves_of t) (lists_of s) (λ r k. has_left r (leaves_of s) (leaves_of t) k) (anchored s A both.0))
            (wider A (leaves_of t) (leaves_of s ++ leaves_of t) (lists_of t) (λ r k. has_right r (leaves_of s) (leaves_of t) k) (anchored t A both.1)),
      ),
    )
anchored (sides.left_join a b s t) A st =
    let all = and_parts (stands s A && stands t A && sees s A a) (sees t A b) st in let some = and_parts (stands s A && stands t A) (sees s A a) all.0 in let both = and_parts (stands s A) (stands t A) some.0 in (
      has_left _ (leaves_of s) (leaves_of t) (visible_is_leaf s A both.0 _ (number_has _ (visible_leaves s A) some.1)),
      (
        has_right _ (leaves_of s) (leaves_of t) (visible_is_leaf t A both.1 _ (number_has _ (visible_leaves t A) all.1)),
        each_append _ (lists_of s) (lists_of t) (wider A (leaves_of s) (leaves_of s ++ leaves_of t) (lists_of s) (λ r k. has_left r (leaves_of s) (leaves_of t) k) (anchored s A both.0))
            (wider A (leaves_of t) (leaves_of s ++ leaves_of t) (lists_of t) (λ r k. has_right r (leaves_of s) (leaves_of t) k) (anchored t A both.1)),
      ),
    )
anchored (sides.in_sub a s t) A st =
    let some = and_parts (stands s A && stands t A) (sees s A a) st in let both = and_parts (stands s A) (stands t A) some.0 in (
      has_left _ (leaves_of s) (leaves_of t) (visible_is_leaf s A both.0 _ (number_has _ (visible_leaves s A) some.1)),
      each_append _ (lists_of s) (lists_of t) (wider A (leaves_of s) (leaves_of s ++ leaves_of t) (lists_of s) (λ r k. has_left r (leaves_of s) (leaves_of t) k) (anchored s A both.0))
          (wider A (leaves_of t) (leaves_of s ++ leaves_of t) (lists_of t) (λ r k. has_right r (leaves_of s) (leaves_of t) k) (anchored t A both.1)),
    )
anchored (sides.dedup s) A st = anchored s A st

-- Atoms: their symbols are the source's.
key_is_list : (s : SideTree) (a : ℕ) → Has a (key_lists_of s) → Has a (lists_of s)
key_is_list (sides.input x) a h = h
key_is_list (sides.proj b s) a (inl e) = inl e
key_is_list (sides.proj b s) a (inr h) = inr (key_is_list s a h)
key_is_list (sides.filtered p b s) a h = inr (key_is_list s a h)
key_is_list (sides.inner_join b c s t) a (inl e) = inl e
key_is_list (sides.inner_join b c s t) a (inr (inl e)) = inr (inl e)
key_is_list (sides.inner_join b c s t) a (inr (inr h)) = inr (inr (both_or a (key_lists_of s) (key_lists_of t) (lists_of s) (lists_of t) (key_is_list s a) (key_is_list t a) h))
key_is_list (sides.left_join b c s t) a (inl e) = inl e
key_is_list (sides.left_join b c s t) a (inr (inl e)) = inr (inl e)
key_is_list (sides.left_join b c s t) a (inr (inr h)) = inr (inr (both_or a (key_lists_of s) (key_lists_of t) (lists_of s) (lists_of t) (key_is_list s a) (key_is_list t a) h))
key_is_list (sides.in_sub b s t) a (inl e) = inl e
key_is_list (sides.in_sub b s t) a (inr h) = inr (both_or a (key_lists_of s) (key_lists_of t) (lists_of s) (lists_of t) (key_is_list s a) (key_is_list t a) h)
key_is_list (sides.dedup s) a h = key_is_list s a h

root_is_list : (s : SideTree) (a : ℕ) → root_list s ≡ Some a → Has a (lists_of s)
root_is_list (sides.proj b s) a h = inl (first a b h)
  where
    first : (a b : ℕ) → Some b ≡ Some a → a ≡ b
    first a b h = cc
root_is_list (sides.input r) a h = cc
root_is_list (sides.filtered p b s) a h = cc
root_is_list (sides.inner_join b c s t) a h = cc
root_is_list (sides.left_join b c s t) a h = cc
root_is_list (sides.in_sub b s t) a h = cc
root_is_list (sides.dedup s) a h = cc

module _ (A : List ℕ) (m : Assigned) (leaves lists preds : List ℕ) (small : EachBelow (length m.leaves) leaves) (few : EachBelow (length m.preds) preds) (at_leaf : Each (AnchoredIn A leaves) lists) where
  list_small : (a : ℕ) → Has a lists → anchor A a < length m.leaves
  list_small a h = below_has (length m.leaves) leaves (anchor A a) small (each_has (AnchoredIn A leaves) a lists at_leaf h)

  two_leaves : (xs : List ℕ) → EachBelow (length m.leaves) xs → Each (AtomCovered A m) (each_two Leaves xs)
  two_leaves [] h = tt
  two_leaves (x ∷ xs) h = each_append (AtomCovered A m) _ (each_two Leaves xs) (each_map (AtomCovered A m) _ xs (each_from_has _ xs (λ y k. (h.0, below_has (length m.leaves) xs y h.1 k)))) (two_leaves xs h.1)

  two_lists : (xs : List ℕ) → Each (AtomCovered A m) (each_two Lists xs)
  two_lists [] = tt
  two_lists (x ∷ xs) = each_append (AtomCovered A m) _ (each_two Lists xs) (each_map (AtomCovered A m) _ xs (each_from_has _ xs (λ y k. tt))) (two_lists xs)

  two_preds : (xs : List ℕ) → EachBelow (length m.preds) xs → Each (AtomCovered A m) (each_two Preds xs)
  two_preds [] h = tt
  two_preds (x ∷ xs) h = each_append (AtomCovered A m) _ (each_two Preds xs) (each_map (AtomCovered A m) _ xs (each_from_has _ xs (λ y k. (h.0, below_has (length m.preds) xs y h.1 k)))) (two_preds xs h.1)

  reference_covered : (a : ℕ) (o : Option ℕ) → Has a lists → ((b : ℕ) → o ≡ Some b → Has b lists) → Each (AtomCovered A m) (option_to_list (option_map (RefAttrs a) o))
  reference_covered a None h k = tt
  reference_covered a (Some b) h k = ((list_small a h, list_small b (k b refl)), tt)

  references_covered : (s : SideTree) → ((a : ℕ) → Has a (lists_of s) → Has a lists) → Each (AtomCovered A m) (references_of s)
  references_covered (sides.input r) f = tt
  references_covered (sides.proj a s) f = references_covered s (λ b h. f b (inr h))
  references_covered (sides.filtered p a s) f = references_covered s (λ b h. f b (inr h))
  references_covered (sides.inner_join a b s t) f =
      let one = list_small a (f a (inl refl)) in let two = list_small b (f b (inr (inl refl))) in
      ((one, two), ((two, one), each_append _ (references_of s) (references_of t) (references_covered s (λ c h. f c (inr (inr (has_left c (lists_of s) (lists_of t) h))))) (references_covered t (λ c h. f c (inr (inr (has_right c (lists_of s) (lists_of t) h)))))))
  references_covered (sides.left_join a b s t) f =
      let one = list_small a (f a (inl refl)) in let two = list_small b (f b (inr (inl refl))) in
      ((one, two), each_append _ (references_of s) (references_of t) (references_covered s (λ c h. f c (inr (inr (has_left c (lists_of s) (lists_of t) h))))) (references_covered t (λ c h. f c (inr (inr (has_right c (lists_of s) (lists_of t) h))))))
  references_covered (sides.in_sub a s t) f =
      each_append _ (option_to_list (option_map (RefAttrs a) (root_list t))) (references_of s ++ references_of t)
      (reference_covered a (root_list t) (f a (inl refl)) (λ b e. f b (inr (has_right b (lists_of s) (lists_of t) (root_is_list t b e)))))
      (each_append _ (references_of s) (references_of t) (references_covered s (λ c h. f c (inr (has_left c (lists_of s) (lists_of t) h)))) (references_covered t (λ c h. f c (inr (has_right c (lists_of s) (lists_of t) h)))))
  references_covered (sides.dedup s) f = references_covered s f

atoms_covered : (s : SideTree) (A : List ℕ) (m : Assigned) → stands s A ≡ true → EachBelow (length m.leaves) (leaves_of s) → EachBelow (length m.preds) (preds_of s) → Each (AtomCovered A m) (atoms_over s)
atoms_covered s A m st small few =
    let own = anchored s A st in
    let key : (a : ℕ) → Has a (key_lists_of s) → anchor A a < length m.leaves = λ a h. list_small A m (leaves_of s) (lists_of s) (preds_of s) small few own a (key_is_list s a h) in
    let leaves = two_leaves A m (leaves_of s) (lists_of s) (preds_of s) small few own (leaves_of s) small in
    let lists = two_lists A m (leaves_of s) (lists_of s) (preds_of s) small few own (lists_of s) in
    let preds = two_preds A m (leaves_of s) (lists_of s) (preds_of s) small few own (preds_of s) few in
    let uniques = each_map (AtomCovered A m) Unique (key_lists_of s) (each_from_has _ (key_lists_of s) key) in
    let filled = each_map (AtomCovered A m) NotNull (key_lists_of s) (each_from_has _ (key_lists_of s) key) in
    let one = each_append (AtomCovered A m) (each_two Leaves (leaves_of s)) (each_two Lists (lists_of s)) leaves lists in
    let two = each_append (AtomCovered A m) (each_two Leaves (leaves_of s) ++ each_two Lists (lists_of s)) (each_two Preds (preds_of s)) one preds in
    let three = each_append (AtomCovered A m) (each_two Leaves (leaves_of s) ++ each_two Lists (lists_of s) ++ each_two Preds (preds_of s)) (map Unique (key_lists_of s)) two uniques in
    let four = each_append (AtomCovered A m) (each_two Leaves (leaves_of s) ++ each_two Lists (lists_of s) ++ each_two Preds (preds_of s) ++ map Unique (key_lists_of s)) (map NotNull (key_lists_of s)) three filled in
    each_append (AtomCovered A m) (each_two Leaves (leaves_of s) ++ each_two Lists (lists_of s) ++ each_two Preds (preds_of s) ++ map Unique (key_lists_of s) ++ map NotNull (key_lists_of s)) (references_of s) four
    (references_covered A m (leaves_of s) (lists_of s) (preds_of s) small few own s (λ a h. h))

-- Leaves and lists by their numbers.
each_leaf : (S : List Table) (s : SideTree) (A : List ℕ) (m : Assigned) → Fits S (fill s A m) → Each (λ r. Fits S (leaf_plan m r)) (leaves_of s)
each_leaf S (sides.input r) A m h = (h, tt)
each_leaf S (sides.proj a s) A m h = each_leaf S s A m h.2
each_leaf S (sides.filtered p a s) A m h = each_leaf S s A m h.1
each_leaf S (sides.inner_join a b s t) A m h = each_append _ (leaves_of s) (leaves_of t) (each_leaf S s A m h.2) (each_leaf S t A m h.3)
each_leaf S (sides.left_join a b s t) A m h = each_append _ (leaves_of s) (leaves_of t) (each_leaf S s A m h.2) (each_leaf S t A m h.3)
each_leaf S (sides.in_sub a s t) A m h = each_append _ (leaves_of s) (leaves_of t) (each_leaf S s A m h.1) (each_leaf S t A m h.2)
each_leaf S (sides.dedup s) A m h = each_leaf S s A m h

some_list : (columns : ℕ → ℕ) (list : List ℕ) → map columns list ≢ [] → list ≢ []
some_list columns list h e = h (ap (map columns) e)

each_list : (s : SideTree) (A : List ℕ) (m : Assigned) → PlacesFit (fill s A m) → Each (λ a. list_of m a ≢ []) (lists_of s)
each_list (sides.input r) A m h = tt
each_list (sides.proj a s) A m h = (some_list _ (list_of m a) h.0.some, each_list s A m h.1)
each_list (sides.filtered p a s) A m h = (some_list _ (list_of m a) h.0.some, each_list s A m h.2)
each_list (sides.inner_join a b s t) A m h = (some_list _ (list_of m a) h.0.lefts.some, (some_list _ (list_of m b) h.0.rights.some, each_append _ (lists_of s) (lists_of t) (each_list s A m h.1) (each_list t A m h.2)))
each_list (sides.left_join a b s t) A m h = (some_list _ (list_of m a) h.0.lefts.some, (some_list _ (list_of m b) h.0.rights.some, each_append _ (lists_of s) (lists_of t) (each_list s A m h.1) (each_list t A m h.2)))
each_list (sides.in_sub a s t) A m h = (some_list _ (list_of m a) h.0.some, each_append _ (lists_of s) (lists_of t) (each_list s A m h.2) (each_list t A m h.3))
each_list (sides.dedup s) A m h = each_list s A m h

-- Places and lengths, from the places of the side filled in.
placed_numbers : (s : SideTree) (A : List ℕ) (m : Assigned) (a : ℕ) → Covers m s → Each (λ k. k < width (fill s A m)) (places s A m a) → IsPlaced s A m a
placed_numbers s A m a c h =
    each_implies (λ n. place (header s A m) (anchor A a) n < width (fill s A m)) (λ n. place (header s A m) (anchor A a) n < length (header s A m)) (list_of m a)
    (λ n k. subst (λ w. place (header s A m) (anchor A a) n < w) (fill_width A m s) k) (each_of_map (λ k. k < width (fill s A m)) (place (header s A m) (anchor A a)) (list_of m a) h)

pub are_placed : (s : SideTree) (A : List ℕ) (m : Assigned) → Covers m s → PlacesFit (fill s A m) → ArePlaced s A m
are_placed (sides.input r) A m c h = tt
are_placed (sides.proj a s) A m c h = (placed_numbers s A m a c.1 h.0.within, are_placed s A m c.1 h.1)
are_placed (sides.filtered p a s) A m c h = (placed_numbers s A m a c.2 h.0.within, are_placed s A m c.2 h.2)
are_placed (sides.inner_join a b s t) A m c h = (placed_numbers s A m a c.2 h.0.lefts.within, placed_numbers t A m b c.3 h.0.rights.within, are_placed s A m c.2 h.1, are_placed t A m c.3 h.2)
are_placed (sides.left_join a b s t) A m c h = (placed_numbers s A m a c.2 h.0.lefts.within, placed_numbers t A m b c.3 h.0.rights.within, are_placed s A m c.2 h.1, are_placed t A m c.3 h.2)
are_placed (sides.in_sub a s t) A m c h = (placed_numbers s A m a c.1 h.0.within, are_placed s A m c.1 h.2, are_placed t A m c.2 h.3)
are_placed (sides.dedup s) A m c h = are_placed s A m c h

same_length : (f g : ℕ → ℕ) (xs ys : List ℕ) → length (map f xs) ≡ length (map g ys) → length xs ≡ length ys
same_length f g xs ys h = sym (length_map f xs) ∙ h ∙ length_map g ys

pub are_even : (s : SideTree) (A : List ℕ) (m : Assigned) → Covers m s → PlacesFit (fill s A m) → AreEven s A m
are_even (sides.input r) A m c h = tt
are_even (sides.proj a s) A m c h = are_even s A m c.1 h.1
are_even (sides.filtered p a s) A m c h = are_even s A m c.2 h.2
are_even (sides.inner_join a b s t) A m c h = (same_length _ _ (list_of m a) (list_of m b) h.0.equally_many, are_even s A m c.2 h.1, are_even t A m c.3 h.2)
are_even (sides.left_join a b s t) A m c h = (same_length _ _ (list_of m a) (list_of m b) h.0.equally_many, are_even s A m c.2 h.1, are_even t A m c.3 h.2)
are_even (sides.in_sub a s t) A m c h = (sym (length_map _ (list_of m a)) ∙ h.1 ∙ fill_width A m t, are_even s A m c.1 h.2, are_even t A m c.2 h.3)
are_even (sides.dedup s) A m c h = are_even s A m c h

-- Numbers that come from a leaf are within its width.
inside_leaf : (s : SideTree) (m : Assigned) (r a : ℕ) → comes_from s (shape m) r a ≡ true → Each (λ n. n < slice_index_or (map width m.leaves) r 0) (list_of m a)
inside_leaf (sides.input x) m r a h = each_from_list_all (λ n. nat_lt n (slice_index_or (map width m.leaves) r 0)) _ (λ n k. lt_true n _ k) (list_of m a) h
inside_leaf (sides.proj b s) m r a h = inside_leaf s m r a (and_parts (all_in (list_of m b) (list_of m a)) (comes_from s (shape m) r a) h).1
inside_leaf (sides.filtered p b s) m r a h = inside_leaf s m r a h
inside_leaf (sides.inner_join b c s t) m r a h = one (occurs r (leaves_of s)) h (inside_leaf s m r a) (inside_leaf t m r a)
  where
    one : (b : Bool) → (if b then comes_from s (shape m) r a else comes_from t (shape m) r a) ≡ true → (comes_from s (shape m) r a ≡ true → Each (λ n. n < slice_index_or (map width m.leaves) r 0) (list_of m a)) →
        (comes_from t (shape m) r a ≡ true → Each (λ n. n < slice_index_or (map width m.leaves) r 0) (list_of m a)) → Each (λ n. n < slice_index_or (map width m.leaves) r 0) (list_of m a)
    one true h f g = f h
    one false h f g = g h
inside_leaf (sides.left_join b c s t) m r a h = one (occurs r (leaves_of s)) h (inside_leaf s m r a) (inside_leaf t m r a)
  where
    one : (b : Bool) → (if b then comes_from s (shape m) r a else comes_from t (shape m) r a) ≡ true → (comes_from s (shape m) r a ≡ true → Each (λ n. n < slice_index_or (map width m.leaves) r 0) (list_of m a)) →
        (comes_from t (shape m) r a ≡ true → Each (λ n. n < slice_index_or (map width m.leaves) r 0) (list_of m a)) → Each (λ n. n < slice_index_or (map width m.leaves) r 0) (list_of m a)
    one true h f g = f h
    one false h f g = g h
inside_leaf (sides.in_sub b s t) m r a h = inside_leaf s m r a h
inside_leaf (sides.dedup s) m r a h = inside_leaf s m r a h

abbrev Inside : List ℕ → Assigned → ℕ → Type 0
Inside A m a = Each (λ n. n < slice_index_or (map width m.leaves) (anchor A a) 0) (list_of m a)

all_inside : (s : SideTree) (A : List ℕ) (m : Assigned) → lists_come s A (shape m) ≡ true → Each (Inside A m) (lists_of s)
all_inside (sides.input x) A m h = tt
all_inside (sides.proj a s) A m h = let parts = and_parts (comes_from s (shape m) (anchor A a) a) (lists_come s A (shape m)) h in (inside_leaf s m (anchor A a) a parts.0, all_inside s A m parts.1)
all_inside (sides.filtered p a s) A m h = let parts = and_parts (comes_from s (shape m) (anchor A a) a) (lists_come s A (shape m)) h in (inside_leaf s m (anchor A a) a parts.0, all_inside s A m parts.1)
all_inside (sides.inner_join a b s t) A m h =
    let three = and_parts (comes_from s (shape m) (anchor A a) a && comes_from t (shape m) (anchor A b) b && lists_come s A (shape m)) (lists_come t A (shape m)) h in
    let two = and_parts (comes_from s (shape m) (anchor A a) a && comes_from t (shape m) (anchor A b) b) (lists_come s A (shape m)) three.0 in
    let one = and_parts (comes_from s (shape m) (anchor A a) a) (comes_from t (shape m) (anchor A b) b) two.0 in
    (inside_leaf s m (anchor A a) a one.0, (inside_leaf t m (anchor A b) b one.1, each_append _ (lists_of s) (lists_of t) (all_inside s A m two.1) (all_inside t A m three.1)))
all_inside (sides.left_join a b s t) A m h =
    let three = and_parts (comes_from s (shape m) (anchor A a) a && comes_from t (shape m) (anchor A b) b && lists_come s A (shape m)) (lists_come t A (shape m)) h in
    let two = and_parts (comes_from s (shape m) (anchor A a) a && comes_from t (shape m) (anchor A b) b) (lists_come s A (shape m)) three.0 in
    let one = and_parts (comes_from s (shape m) (anchor A a) a) (comes_from t (shape m) (anchor A b) b) two.0 in
    (inside_leaf s m (anchor A a) a one.0, (inside_leaf t m (anchor A b) b one.1, each_append _ (lists_of s) (lists_of t) (all_inside s A m two.1) (all_inside t A m three.1)))
all_inside (sides.in_sub a s t) A m h =
    let two = and_parts (comes_from s (shape m) (anchor A a) a && lists_come s A (shape m)) (lists_come t A (shape m)) h in
    let one = and_parts (comes_from s (shape m) (anchor A a) a) (lists_come s A (shape m)) two.0 in
    (inside_leaf s m (anchor A a) a one.0, each_append _ (lists_of s) (lists_of t) (all_inside s A m one.1) (all_inside t A m two.1))
all_inside (sides.dedup s) A m h = all_inside s A m h

-- Numbers that count up from n have each number from n on, as many as they are.
counted_has : (n : ℕ) (ks : List ℕ) (k : ℕ) → counts_up n ks ≡ true → n ≤ k → k < n + length ks → Has k ks
counted_has n [] k h le lt = absurd (omega (arith, le, lt))
counted_has n (j ∷ ks) k h le lt =
    let parts = and_parts (j == n) (counts_up (suc n) ks) h in
    here (k == n) refl (eq_true j n parts.0) (λ l m. counted_has (suc n) ks k parts.1 l m)
  where
    differs : (k == n) ≡ false → k ≢ n
    differs e same = false≢true (sym e ∙ ap (λ z. z == n) same ∙ itself n)
      where
        itself : (n : ℕ) → (n == n) ≡ true
        itself n = grind (arith, common_steps)

    here : (b : Bool) → (k == n) ≡ b → j ≡ n → (suc n ≤ k → k < suc n + length ks → Has k ks) → Has k (j ∷ ks)
    here true e f g = inl (eq_true k n e ∙ sym f)
    here false e f g = let other = differs e in inr (g (omega (arith, le, other)) (omega (arith, lt)))

each_place : {X : Type 0} (P : X → Type 0) (xs : List X) (d : X) → ((k : ℕ) → k < length xs → P (slice_index_or xs k d)) → Each P xs
each_place P [] d h = tt
each_place P (x ∷ xs) d h = (h 0 (omega arith), each_place P xs d (λ k lt. h (suc k) (omega (arith, lt))))

module _ (p : PairTree) (lawful : IsLawful p) (m : Assigned) (each : HasEach p m) where
  pub atoms_are_covered : (k : ℕ) (x : Atom) → slice_get (atoms_over p.source) k ≡ Some x → AtomCovered p.anchors m x
  atoms_are_covered k x get = each_get (AtomCovered p.anchors m) (atoms_over p.source) k x
      (atoms_covered p.source p.anchors m (lawful_stands p lawful).0 (leaves_below p lawful m each) (preds_below p lawful m each)) get

  pub leaves_fit : (S : List Table) → Fits S (fill p.source p.anchors m) → Each (Fits S) m.leaves
  leaves_fit S h = each_place (Fits S) m.leaves (plans.table 0 0) (λ k lt.
      each_has (λ r. Fits S (leaf_plan m r)) k (leaves_of p.source) (each_leaf S p.source p.anchors m h) (counted_has 0 (leaves_of p.source) k (source_leaves p lawful.symbols) (omega arith) (omega (arith, lt, each.leaves))))

  pub lists_filled : PlacesFit (fill p.source p.anchors m) → Each (λ list. list ≢ []) m.lists
  lists_filled h = each_place (λ list. list ≢ []) m.lists [] (λ k lt.
      each_has (λ a. list_of m a ≢ []) k (lists_of p.source) (each_list p.source p.anchors m h) (counted_has 0 (lists_of p.source) k (source_lists p lawful.symbols) (omega arith) (omega (arith, lt, each.lists))))

  -- each number of a list is within its leaf
  pub numbers_inside : lists_come p.source p.anchors (shape m) ≡ true → (a : ℕ) → Each (λ c. c < width (leaf_plan m (anchor p.anchors a))) (list_of m a)
  numbers_inside h a = elim (cases_lt a (length m.lists)) [
    | inl lt ↦
        (let there = counted_has 0 (lists_of p.source) a (source_lists p lawful.symbols) (omega arith) (omega (arith, lt, each.lists)) in
        let leaf = below_has (length m.leaves) (leaves_of p.source) (anchor p.anchors a) (leaves_below p lawful m each) (each_has (AnchoredIn p.anchors (leaves_of p.source)) a (lists_of p.source) (anchored p.source p.anchors (lawful_stands p lawful).0) there) in
        subst (λ w. Each (λ c. c < w) (list_of m a)) (index_map width m.leaves (anchor p.anchors a) (plans.table 0 0) 0 leaf)
        (each_has (Inside p.anchors m) a (lists_of p.source) (all_inside p.source p.anchors m h) there))
    | inr ge ↦ subst (λ (l : List ℕ). Each (λ c. c < width (leaf_plan m (anchor p.anchors a))) l) (sym (get_or_past m.lists a [] ge)) tt
  ]

-- The destination's leaves are apart, and among the source's.
different_apart : (xs : List ℕ) → all_different xs ≡ true → Apart xs
different_apart [] h = tt
different_apart (x ∷ xs) h =
    let parts = and_parts (not (occurs x xs)) (all_different xs) h in
    (each_from_has (λ y. x ≢ y) xs (λ y there e. false≢true (sym (ap not (list_any_has (λ z. z == x) y xs there (itself x y e))) ∙ parts.0)), different_apart xs parts.1)
  where
    itself : (x y : ℕ) → x ≡ y → (y == x) ≡ true
    itself x y e = grind (arith, common_steps)

pub dest_leaves_apart : (p : PairTree) → IsLawful p → Apart (leaves_of p.dest)
dest_leaves_apart p lawful = different_apart (leaves_of p.dest) (and_parts _ (all_different (leaves_of p.dest)) lawful.symbols).1

pub dest_leaves_there : (p : PairTree) → IsLawful p → Each (λ r. Has r (leaves_of p.source)) (leaves_of p.dest)
dest_leaves_there p lawful =
    let all = (and_parts _ (uses_symbols_of p.source p.dest) (and_parts _ (all_different (leaves_of p.dest)) lawful.symbols).0).1 in
    let one = and_parts (all_in (leaves_of p.source) (leaves_of p.dest)) (all_in (lists_of p.source) (lists_of p.dest)) (and_parts _ (all_in (preds_of p.source) (preds_of p.dest)) all).0 in
    each_from_list_all (λ x. occurs x (leaves_of p.source)) (λ r. Has r (leaves_of p.source)) (λ r k. number_has r (leaves_of p.source) k) (leaves_of p.dest) one.0
