-- Facts that a set asks for say what is known under it.
use Rattle.std.proofs.Common.{ℕ, ◌≡◌, ◌<◌, ◌+◌, ◌↔◌, ◌⊎◌, inl, inr, Bool, true, false, ◌||◌, List, [], ◌∷◌, ◌++◌, map, length, refl, sym, ap, ◌∙◌, subst, arith, Some}
use Rattle.std.specs.Prelude.{flat_map, slice_get}
use Rattle.std.specs.List.{list_any}
use Rattle.std.proofs.lemmas.Bool.{and_parts, and_from, cases_order}
use Rattle.wt_bag.specs.Choices.{Has}
use Rattle.wt_bag.proofs.HasLaws.{list_any_has, has_list_any, has_flat_map, has_from_flat_map, has_map, has_from_map, has_left, has_right, has_split}
use Rattle.wt_symbol.specs.Sides.{PairTree}
use Rattle.wt_constraint.specs.declared.atom.Atom.{Atom}
use Rattle.wt_constraint.specs.declared.atom.Atom.TheVariants.{RelEq, AttrsEq, PredEq, Unique, NotNull, RefAttrs}
use Rattle.wt_constraint.specs.declared.atom.Kind.TheVariants.{Leaves, Lists, Preds}
use Rattle.wt_constraint.specs.declared.set.AtomSet.{AtomSet}
use Rattle.wt_constraint.specs.Atoms.{atoms_of_pair}
use Rattle.wt_constraint.specs.Sets.{HasAtom}
use Rattle.wt_constraint.specs.Sameness.{AreSame}
use Rattle.wt_form.specs.Under.{Under, Asks, Holds, Refers, KeptBelow, SameLeaf, SameList, SamePred, kept_below}
use Rattle.wt_facts.specs.declared.kept.Kept.{Kept}
use Rattle.wt_facts.specs.declared.facts.LeafList.{LeafList}
use Rattle.wt_facts.specs.declared.facts.Reference.{Reference}
use Rattle.wt_facts.specs.declared.facts.Facts.{Facts}
use Rattle.wt_facts.specs.Sames.{same_class}
use Rattle.wt_facts.specs.Facts.{known_of, is_at, is_reference, is_kept, leaf_list, unique_of, not_null_of, reference_of, kept_of, IsAskedBelow}
use Rattle.wt_facts.proofs.Closures.{get_within}

-- one atom more
pub asked_there : (atoms : List Atom) (set : AtomSet) (k : ℕ) (x : Atom) (out out' : List Atom) → slice_get atoms k ≡ Some x → HasAtom set k → out' ≡ out ++ x ∷ [] →
    ((y : Atom) → (Has y out ↔ IsAskedBelow atoms set k y)) → (y : Atom) → (Has y out' ↔ IsAskedBelow atoms set (k + 1) y)
asked_there atoms set k x out out' at there o before y = (λ h. to (has_split y out (x ∷ []) (subst (Has y) o h)), λ h. subst (Has y) (sym o) (back h (cases_order h.0 k)))
  where
    to : Has y out ⊎ Has y (x ∷ []) → IsAskedBelow atoms set (k + 1) y
    to (inl h) = let b = (before y).0 h in (b.0, omega (arith, b.1), b.2, b.3)
    to (inr (inl e)) = (k, omega arith, there, at ∙ ap Some (sym e))
    to (inr (inr h)) = absurd h

    same_some : {X : Type 0} (x y : X) → Some x ≡ Some y → x ≡ y
    same_some x y e = cc

    back : (h : IsAskedBelow atoms set (k + 1) y) → (h.0 ≡ k) ⊎ ((h.0 < k) ⊎ (k < h.0)) → Has y (out ++ x ∷ [])
    back h (inl e) = has_right y out (x ∷ []) (inl (same_some y x (sym h.3 ∙ ap (slice_get atoms) e ∙ at)))
    back h (inr (inl l)) = has_left y out (x ∷ []) ((before y).1 (h.0, l, h.2, h.3))
    back h (inr (inr l)) = let m = h.1 in let bad : ⊥ = omega arith in absurd bad

pub asked_absent : (atoms : List Atom) (set : AtomSet) (k : ℕ) (out out' : List Atom) → (HasAtom set k → ⊥) → out' ≡ out →
    ((y : Atom) → (Has y out ↔ IsAskedBelow atoms set k y)) → (y : Atom) → (Has y out' ↔ IsAskedBelow atoms set (k + 1) y)
asked_absent atoms set k out out' none o before y = (λ h. let b = (before y).0 (subst (Has y) o h) in (b.0, omega (arith, b.1), b.2, b.3), λ h. subst (Has y) (sym o) (back h (cases_order h.0 k)))
  where
    back : (h : IsAskedBelow atoms set (k + 1) y) → (h.0 ≡ k) ⊎ ((h.0 < k) ⊎ (k < h.0)) → Has y out
    back h (inl e) = absurd (none (subst (HasAtom set) e h.2))
    back h (inr (inl l)) = (before y).1 (h.0, l, h.2, h.3)
    back h (inr (inr l)) = let m = h.1 in let bad : ⊥ = omega arith in absurd bad

pub asked_asks : (p : PairTree) (atoms : List Atom) (set : AtomSet) (asked : List Atom) → atoms ≡ atoms_of_pair p → ((x : Atom) → (Has x asked ↔ IsAskedBelow atoms set (length atoms) x)) →
    (x : Atom) → (Has x asked ↔ Asks p set x)
asked_asks p atoms set asked e h x = (
  λ has. let b = (h x).0 has in record { number = b.0; there = b.2; atom = ap (λ l. slice_get l b.0) (sym e) ∙ b.3 },
  λ a. let got : slice_get atoms a.number ≡ Some x = ap (λ l. slice_get l a.number) e ∙ a.atom in
      (h x).1 (a.number, get_within atoms a.number x got, a.there, got),
)

module _ (p : PairTree) (set : AtomSet) (facts : Facts) (asked : List Atom)
    (leaves : (i j : ℕ) → ((same_class facts.sames.leaves i j ≡ true) ↔ SameLeaf p set i j)) (lists : (i j : ℕ) → ((same_class facts.sames.lists i j ≡ true) ↔ SameList p set i j))
    (preds : (i j : ℕ) → ((same_class facts.sames.preds i j ≡ true) ↔ SamePred p set i j))
    (asks : (x : Atom) → (Has x asked ↔ Asks p set x))
    (unique : facts.unique ≡ flat_map (unique_of p.anchors) asked) (not_null : facts.not_null ≡ flat_map (not_null_of p.anchors) asked) (refs : facts.refs ≡ flat_map (reference_of p.anchors) asked)
    (kept : facts.kept ≡ map kept_of (kept_below p.source p.anchors) ++ map kept_of (kept_below p.dest p.anchors)) where
  at_parts : (r a : ℕ) (l : LeafList) → is_at facts.sames r a l ≡ true → SameLeaf p set r l.leaf × SameList p set a l.list
  at_parts r a l h = let q = and_parts (same_class facts.sames.leaves r l.leaf) (same_class facts.sames.lists a l.list) h in ((leaves r l.leaf).0 q.0, (lists a l.list).0 q.1)

  at_from : (r a : ℕ) (l : LeafList) → SameLeaf p set r l.leaf → SameList p set a l.list → is_at facts.sames r a l ≡ true
  at_from r a l h j = and_from (same_class facts.sames.leaves r l.leaf) (same_class facts.sames.lists a l.list) ((leaves r l.leaf).1 h) ((lists a l.list).1 j)

  unique_atom : (r a : ℕ) (l : LeafList) (x : Atom) → Asks p set x → Has l (unique_of p.anchors x) → is_at facts.sames r a l ≡ true → Holds p set Unique r a
  unique_atom r a l (Unique b) h (inl e) t = let q = at_parts r a (leaf_list p.anchors b) (subst (λ z. is_at facts.sames r a z ≡ true) e t) in record { list = b; asked = h; leaf = q.0; same = q.1 }
  unique_atom r a l (Unique b) h (inr k) t = absurd k
  unique_atom r a l (NotNull b) h k t = absurd k
  unique_atom r a l (RefAttrs b c) h k t = absurd k
  unique_atom r a l (RelEq b c) h k t = absurd k
  unique_atom r a l (AttrsEq b c) h k t = absurd k
  unique_atom r a l (PredEq b c) h k t = absurd k

  not_null_atom : (r a : ℕ) (l : LeafList) (x : Atom) → Asks p set x → Has l (not_null_of p.anchors x) → is_at facts.sames r a l ≡ true → Holds p set NotNull r a
  not_null_atom r a l (NotNull b) h (inl e) t = let q = at_parts r a (leaf_list p.anchors b) (subst (λ z. is_at facts.sames r a z ≡ true) e t) in record { list = b; asked = h; leaf = q.0; same = q.1 }
  not_null_atom r a l (NotNull b) h (inr k) t = absurd k
  not_null_atom r a l (Unique b) h k t = absurd k
  not_null_atom r a l (RefAttrs b c) h k t = absurd k
  not_null_atom r a l (RelEq b c) h k t = absurd k
  not_null_atom r a l (AttrsEq b c) h k t = absurd k
  not_null_atom r a l (PredEq b c) h k t = absurd k

  reference_atom : (r a s b : ℕ) (l : Reference) (x : Atom) → Asks p set x → Has l (reference_of p.anchors x) → is_reference facts.sames r a s b l ≡ true → Refers p set r a s b
  reference_atom r a s b l (RefAttrs c d) h (inl e) t =
      let both = and_parts (is_at facts.sames r a l.from) (is_at facts.sames s b l.to) t in
      let from = at_parts r a (leaf_list p.anchors c) (subst (λ z. is_at facts.sames r a z.from ≡ true) e both.0) in
      let to = at_parts s b (leaf_list p.anchors d) (subst (λ z. is_at facts.sames s b z.to ≡ true) e both.1) in
      record { from = c; to = d; asked = h; leaf = from.0; list = from.1; other_leaf = to.0; other_list = to.1 }
  reference_atom r a s b l (RefAttrs c d) h (inr k) t = absurd k
  reference_atom r a s b l (Unique c) h k t = absurd k
  reference_atom r a s b l (NotNull c) h k t = absurd k
  reference_atom r a s b l (RelEq c d) h k t = absurd k
  reference_atom r a s b l (AttrsEq c d) h k t = absurd k
  reference_atom r a s b l (PredEq c d) h k t = absurd k

  unique_to : (r a : ℕ) → list_any (is_at facts.sames r a) facts.unique ≡ true → Holds p set Unique r a
  unique_to r a t =
      let f = has_list_any (is_at facts.sames r a) facts.unique t in
      let g = has_from_flat_map f.0 (unique_of p.anchors) asked (subst (Has f.0) unique f.1) in
      unique_atom r a f.0 g.0 ((asks g.0).0 g.1) g.2 f.2

  unique_from : (r a : ℕ) → Holds p set Unique r a → list_any (is_at facts.sames r a) facts.unique ≡ true
  unique_from r a h =
      list_any_has (is_at facts.sames r a) (leaf_list p.anchors h.list) facts.unique
      (subst (Has (leaf_list p.anchors h.list)) (sym unique) (has_flat_map (Unique h.list) (leaf_list p.anchors h.list) (unique_of p.anchors) asked ((asks (Unique h.list)).1 h.asked) (inl refl)))
      (at_from r a (leaf_list p.anchors h.list) h.leaf h.same)

  not_null_to : (r a : ℕ) → list_any (is_at facts.sames r a) facts.not_null ≡ true → Holds p set NotNull r a
  not_null_to r a t =
      let f = has_list_any (is_at facts.sames r a) facts.not_null t in
      let g = has_from_flat_map f.0 (not_null_of p.anchors) asked (subst (Has f.0) not_null f.1) in
      not_null_atom r a f.0 g.0 ((asks g.0).0 g.1) g.2 f.2

  not_null_from : (r a : ℕ) → Holds p set NotNull r a → list_any (is_at facts.sames r a) facts.not_null ≡ true
  not_null_from r a h =
      list_any_has (is_at facts.sames r a) (leaf_list p.anchors h.list) facts.not_null
      (subst (Has (leaf_list p.anchors h.list)) (sym not_null) (has_flat_map (NotNull h.list) (leaf_list p.anchors h.list) (not_null_of p.anchors) asked ((asks (NotNull h.list)).1 h.asked) (inl refl)))
      (at_from r a (leaf_list p.anchors h.list) h.leaf h.same)

  refs_to : (r a s b : ℕ) → list_any (is_reference facts.sames r a s b) facts.refs ≡ true → Refers p set r a s b
  refs_to r a s b t =
      let f = has_list_any (is_reference facts.sames r a s b) facts.refs t in
      let g = has_from_flat_map f.0 (reference_of p.anchors) asked (subst (Has f.0) refs f.1) in
      reference_atom r a s b f.0 g.0 ((asks g.0).0 g.1) g.2 f.2

  refs_from : (r a s b : ℕ) → Refers p set r a s b → list_any (is_reference facts.sames r a s b) facts.refs ≡ true
  refs_from r a s b h =
      let l : Reference = record { from = leaf_list p.anchors h.from; to = leaf_list p.anchors h.to } in
      list_any_has (is_reference facts.sames r a s b) l facts.refs
      (subst (Has l) (sym refs) (has_flat_map (RefAttrs h.from h.to) l (reference_of p.anchors) asked ((asks (RefAttrs h.from h.to)).1 h.asked) (inl refl)))
      (and_from (is_at facts.sames r a l.from) (is_at facts.sames s b l.to) (at_from r a l.from h.leaf h.list) (at_from s b l.to h.other_leaf h.other_list))

  kept_both : (e : ℕ × ℕ) → Has e (kept_below p.source p.anchors ++ kept_below p.dest p.anchors) → Has (kept_of e) facts.kept
  kept_both e h = subst (Has (kept_of e)) (sym kept) (go (has_split e (kept_below p.source p.anchors) (kept_below p.dest p.anchors) h))
    where
      go : Has e (kept_below p.source p.anchors) ⊎ Has e (kept_below p.dest p.anchors) → Has (kept_of e) (map kept_of (kept_below p.source p.anchors) ++ map kept_of (kept_below p.dest p.anchors))
      go (inl k) = has_left (kept_of e) _ _ (has_map e kept_of (kept_below p.source p.anchors) k)
      go (inr k) = has_right (kept_of e) (map kept_of (kept_below p.source p.anchors)) _ (has_map e kept_of (kept_below p.dest p.anchors) k)

  kept_back : (k : Kept) → Has k facts.kept → (e : ℕ × ℕ) × Has e (kept_below p.source p.anchors ++ kept_below p.dest p.anchors) × (k ≡ kept_of e)
  kept_back k h = go (has_split k (map kept_of (kept_below p.source p.anchors)) (map kept_of (kept_below p.dest p.anchors)) (subst (Has k) kept h))
    where
      go : Has k (map kept_of (kept_below p.source p.anchors)) ⊎ Has k (map kept_of (kept_below p.dest p.anchors)) → (e : ℕ × ℕ) × Has e (kept_below p.source p.anchors ++ kept_below p.dest p.anchors) × (k ≡ kept_of e)
      go (inl g) = let f = has_from_map k kept_of (kept_below p.source p.anchors) g in (f.0, has_left f.0 _ _ f.1, f.2)
      go (inr g) = let f = has_from_map k kept_of (kept_below p.dest p.anchors) g in (f.0, has_right f.0 (kept_below p.source p.anchors) _ f.1, f.2)

  within_to : (a b : ℕ) → (same_class facts.sames.lists a b || list_any (is_kept facts.sames a b) facts.kept) ≡ true → SameList p set a b ⊎ KeptBelow p set a b
  within_to a b h = go (same_class facts.sames.lists a b) refl h
    where
      go : (t : Bool) → same_class facts.sames.lists a b ≡ t → (t || list_any (is_kept facts.sames a b) facts.kept) ≡ true → SameList p set a b ⊎ KeptBelow p set a b
      go true e t = inl ((lists a b).0 e)
      go false e t =
          let f = has_list_any (is_kept facts.sames a b) facts.kept t in
          let both = and_parts (same_class facts.sames.lists a f.0.upper) (same_class facts.sames.lists b f.0.lower) f.2 in
          let k = kept_back f.0 f.1 in
          inr record {
            upper = k.0.0;
            lower = k.0.1;
            kept = k.1;
            from = subst (λ z. SameList p set a z.upper) k.2 ((lists a f.0.upper).0 both.0);
            to = subst (λ z. SameList p set b z.lower) k.2 ((lists b f.0.lower).0 both.1);
          }

  or_true : (x : Bool) → (x || true) ≡ true
  or_true true = refl
  or_true false = refl

  within_from : (a b : ℕ) → SameList p set a b ⊎ KeptBelow p set a b → (same_class facts.sames.lists a b || list_any (is_kept facts.sames a b) facts.kept) ≡ true
  within_from a b (inl s) = ap (λ t. t || list_any (is_kept facts.sames a b) facts.kept) ((lists a b).1 s)
  within_from a b (inr k) =
      let t = list_any_has (is_kept facts.sames a b) (kept_of (k.upper, k.lower)) facts.kept (kept_both (k.upper, k.lower) k.kept)
      (and_from (same_class facts.sames.lists a k.upper) (same_class facts.sames.lists b k.lower) ((lists a k.upper).1 k.from) ((lists b k.lower).1 k.to)) in
      ap (λ x. same_class facts.sames.lists a b || x) t ∙ or_true (same_class facts.sames.lists a b)

  pub facts_under : Under p set (known_of facts)
  facts_under = record {
    rel = leaves;
    attr = lists;
    pred = preds;
    unique = λ r a. (unique_to r a, unique_from r a);
    not_null = λ r a. (not_null_to r a, not_null_from r a);
    refs = λ r a s b. (refs_to r a s b, refs_from r a s b);
    within = λ a b. (within_to a b, within_from a b);
  }

-- the same, for what a program has of the pair
pub facts_tell : (p : PairTree) (atoms : List Atom) (set : AtomSet) (facts : Facts) (asked : List Atom) → atoms ≡ atoms_of_pair p →
    ((i j : ℕ) → ((same_class facts.sames.leaves i j ≡ true) ↔ AreSame Leaves atoms set i j)) → ((i j : ℕ) → ((same_class facts.sames.lists i j ≡ true) ↔ AreSame Lists atoms set i j)) →
    ((i j : ℕ) → ((same_class facts.sames.preds i j ≡ true) ↔ AreSame Preds atoms set i j)) → ((x : Atom) → (Has x asked ↔ IsAskedBelow atoms set (length atoms) x)) →
    facts.unique ≡ flat_map (unique_of p.anchors) asked → facts.not_null ≡ flat_map (not_null_of p.anchors) asked → facts.refs ≡ flat_map (reference_of p.anchors) asked →
    facts.kept ≡ map kept_of (kept_below p.source p.anchors) ++ map kept_of (kept_below p.dest p.anchors) → Under p set (known_of facts)
facts_tell p atoms set facts asked e leaves lists preds below unique not_null refs kept =
    facts_under p set facts asked
    (subst (λ l. (i j : ℕ) → ((same_class facts.sames.leaves i j ≡ true) ↔ AreSame Leaves l set i j)) e leaves)
    (subst (λ l. (i j : ℕ) → ((same_class facts.sames.lists i j ≡ true) ↔ AreSame Lists l set i j)) e lists)
    (subst (λ l. (i j : ℕ) → ((same_class facts.sames.preds i j ≡ true) ↔ AreSame Preds l set i j)) e preds)
    (asked_asks p atoms set asked e below) unique not_null refs kept
