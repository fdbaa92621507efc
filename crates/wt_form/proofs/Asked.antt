-- What is known under a set of a pair's atoms can be computed, so there always is such a knowledge.
use Rattle.std.proofs.Common.{ℕ, zero, suc, ◌+◌, ◌≡◌, ◌⊎◌, inl, inr, Bool, true, false, ◌&&◌, ◌||◌, List, [], ◌∷◌, ◌++◌, Some, refl, sym, ap, ◌∙◌, subst, nat_eq, cond, arith, eqb-true, eq-eqb}
use Rattle.std.specs.Prelude.{slice_get, flat_map}
use Rattle.std.specs.List.{list_any}
use Rattle.std.specs.Int.{bit_at}
use Rattle.std.proofs.lemmas.Bool.{false≢true, and_parts, and_from}
use Rattle.wt_bag.specs.Choices.{Has}
use Rattle.wt_bag.proofs.HasLaws.{list_any_has, has_list_any, has_flat_map, has_from_flat_map}
use Rattle.wt_symbol.specs.Sides.{PairTree}
use Rattle.wt_symbol.specs.Heads.{anchor}
use Rattle.wt_constraint.specs.declared.atom.Atom.{Atom}
use Rattle.wt_constraint.specs.declared.atom.Atom.TheVariants.{RelEq, AttrsEq, PredEq, Unique, NotNull, RefAttrs}
use Rattle.wt_constraint.specs.declared.atom.Kind.{Kind}
use Rattle.wt_constraint.specs.declared.atom.Kind.TheVariants.{Leaves, Lists, Preds}
use Rattle.wt_constraint.specs.declared.set.AtomSet.{AtomSet}
use Rattle.wt_constraint.specs.Atoms.{equal, atoms_of_pair}
use Rattle.wt_constraint.specs.Sameness.{AreSame, reflexive, linked, symmetric, transitive}
use Rattle.wt_form.specs.Known.{Known}
use Rattle.wt_form.specs.Under.{Under, Asks, Holds, Refers, KeptBelow, SameLeaf, SameList, kept_below}

-- the atoms of the set, of which the first has number k
abbrev asked_from : ℕ → List Atom → AtomSet → List Atom
asked_from k [] set = []
asked_from k (x ∷ xs) set = cond (nat_eq (bit_at set.0 k) 1) (x ∷ asked_from (suc k) xs set) (asked_from (suc k) xs set)

asked_here : (k : ℕ) (x : Atom) (xs : List Atom) (set : AtomSet) (a : Atom) → (b : Bool) → nat_eq (bit_at set.0 k) 1 ≡ b → Has a (cond b (x ∷ asked_from (suc k) xs set) (asked_from (suc k) xs set)) →
    ((a ≡ x) × (bit_at set.0 k ≡ 1)) ⊎ Has a (asked_from (suc k) xs set)
asked_here k x xs set a true e (inl q) = inl (q, eqb-true (bit_at set.0 k) 1 e)
asked_here k x xs set a true e (inr h) = inr h
asked_here k x xs set a false e h = inr h

asked_has : (k : ℕ) (xs : List Atom) (set : AtomSet) (a : Atom) → Has a (asked_from k xs set) → (j : ℕ) × (bit_at set.0 (k + j) ≡ 1) × (slice_get xs j ≡ Some a)
asked_has k [] set a h = absurd h
asked_has k (x ∷ xs) set a h = go (asked_here k x xs set a (nat_eq (bit_at set.0 k) 1) refl h) (λ r. asked_has (suc k) xs set a r)
  where
    go : ((a ≡ x) × (bit_at set.0 k ≡ 1)) ⊎ Has a (asked_from (suc k) xs set) → (Has a (asked_from (suc k) xs set) → (j : ℕ) × (bit_at set.0 (suc k + j) ≡ 1) × (slice_get xs j ≡ Some a)) →
        (j : ℕ) × (bit_at set.0 (k + j) ≡ 1) × (slice_get (x ∷ xs) j ≡ Some a)
    go (inl q) later = (0, ap (bit_at set.0) (let z : k + 0 ≡ k = omega arith in z) ∙ q.1, ap Some (sym q.0))
    go (inr r) later = let l = later r in (suc l.0, ap (bit_at set.0) (let z : k + suc l.0 ≡ suc k + l.0 = omega arith in z) ∙ l.1, l.2)

has_asked : (k : ℕ) (xs : List Atom) (set : AtomSet) (a : Atom) (j : ℕ) → bit_at set.0 (k + j) ≡ 1 → slice_get xs j ≡ Some a → Has a (asked_from k xs set)
has_asked k [] set a j b g = cc
has_asked k (x ∷ xs) set a zero b g = go (nat_eq (bit_at set.0 k) 1) refl
  where
    go : (t : Bool) → nat_eq (bit_at set.0 k) 1 ≡ t → Has a (cond t (x ∷ asked_from (suc k) xs set) (asked_from (suc k) xs set))
    go true e = inl (let z : a ≡ x = cc in z)
    go false e = let one : bit_at set.0 k ≡ 1 = ap (bit_at set.0) (let z : k ≡ k + 0 = omega arith in z) ∙ b in
        absurd (false≢true (sym e ∙ ap (λ n. nat_eq n 1) one))
has_asked k (x ∷ xs) set a (suc j) b g = go (nat_eq (bit_at set.0 k) 1) (has_asked (suc k) xs set a j (ap (bit_at set.0) (let z : suc k + j ≡ k + suc j = omega arith in z) ∙ b) g)
  where
    go : (t : Bool) → Has a (asked_from (suc k) xs set) → Has a (cond t (x ∷ asked_from (suc k) xs set) (asked_from (suc k) xs set))
    go true h = inr h
    go false h = h

-- the two symbols that an atom of this kind makes equal
abbrev link_of : Kind → Atom → List (ℕ × ℕ)
link_of Leaves (RelEq x y) = (x, y) ∷ []
link_of Lists (AttrsEq x y) = (x, y) ∷ []
link_of Preds (PredEq x y) = (x, y) ∷ []
link_of _ _ = []

of_link : (kind : Kind) (a : Atom) (x y : ℕ) → Has (x, y) (link_of kind a) → a ≡ equal kind x y
of_link Leaves (RelEq u v) x y (inl e) = ap (λ z. RelEq z.0 z.1) (sym e)
of_link Leaves (RelEq u v) x y (inr h) = absurd h
of_link Lists (AttrsEq u v) x y (inl e) = ap (λ z. AttrsEq z.0 z.1) (sym e)
of_link Lists (AttrsEq u v) x y (inr h) = absurd h
of_link Preds (PredEq u v) x y (inl e) = ap (λ z. PredEq z.0 z.1) (sym e)
of_link Preds (PredEq u v) x y (inr h) = absurd h
of_link Leaves (AttrsEq u v) x y h = absurd h
of_link Leaves (PredEq u v) x y h = absurd h
of_link Leaves (Unique u) x y h = absurd h
of_link Leaves (NotNull u) x y h = absurd h
of_link Leaves (RefAttrs u v) x y h = absurd h
of_link Lists (RelEq u v) x y h = absurd h
of_link Lists (PredEq u v) x y h = absurd h
of_link Lists (Unique u) x y h = absurd h
of_link Lists (NotNull u) x y h = absurd h
of_link Lists (RefAttrs u v) x y h = absurd h
of_link Preds (RelEq u v) x y h = absurd h
of_link Preds (AttrsEq u v) x y h = absurd h
of_link Preds (Unique u) x y h = absurd h
of_link Preds (NotNull u) x y h = absurd h
of_link Preds (RefAttrs u v) x y h = absurd h

to_link : (kind : Kind) (x y : ℕ) → Has (x, y) (link_of kind (equal kind x y))
to_link Leaves x y = inl refl
to_link Lists x y = inl refl
to_link Preds x y = inl refl

-- the symbol that stands for v's class under some links
abbrev class_of : List (ℕ × ℕ) → ℕ → ℕ
class_of [] v = v
class_of (l ∷ ls) v = cond (nat_eq (class_of ls v) (class_of ls l.1)) (class_of ls l.0) (class_of ls v)

module _ (R : ℕ → ℕ → Type 0) (itself : (x : ℕ) → R x x) (back : (x y : ℕ) → R x y → R y x) (along : (x y z : ℕ) → R x y → R y z → R x z) where
  class_related : (ls : List (ℕ × ℕ)) → ((x y : ℕ) → Has (x, y) ls → R x y) → (v : ℕ) → R v (class_of ls v)
  class_related [] f v = itself v
  class_related (l ∷ ls) f v = go (nat_eq (class_of ls v) (class_of ls l.1)) refl (λ u. class_related ls (λ x y h. f x y (inr h)) u)
    where
      go : (b : Bool) → nat_eq (class_of ls v) (class_of ls l.1) ≡ b → ((u : ℕ) → R u (class_of ls u)) → R v (cond b (class_of ls l.0) (class_of ls v))
      go false e ih = ih v
      go true e ih =
          let met : class_of ls v ≡ class_of ls l.1 = eqb-true (class_of ls v) (class_of ls l.1) e in
          along v l.1 (class_of ls l.0) (along v (class_of ls v) l.1 (ih v) (subst (λ c. R c l.1) (sym met) (back l.1 (class_of ls l.1) (ih l.1))))
          (along l.1 l.0 (class_of ls l.0) (back l.0 l.1 (f l.0 l.1 (inl refl))) (ih l.0))

eq_itself : (n : ℕ) → nat_eq n n ≡ true
eq_itself n = eq-eqb n n refl

linked_class : (ls : List (ℕ × ℕ)) (x y : ℕ) → Has (x, y) ls → class_of ls x ≡ class_of ls y
linked_class [] x y h = absurd h
linked_class (l ∷ ls) x y (inl e) =
    ap (λ z. class_of (l ∷ ls) z.0) e ∙ first (nat_eq (class_of ls l.0) (class_of ls l.1)) ∙ sym (ap (λ t. cond t (class_of ls l.0) (class_of ls l.1)) (eq_itself (class_of ls l.1))) ∙ sym (ap (λ z. class_of (l ∷ ls) z.1) e)
  where
    first : (b : Bool) → cond b (class_of ls l.0) (class_of ls l.0) ≡ class_of ls l.0
    first true = refl
    first false = refl
linked_class (l ∷ ls) x y (inr h) = ap (λ c. cond (nat_eq c (class_of ls l.1)) (class_of ls l.0) c) (linked_class ls x y h)

module _ (p : PairTree) (set : AtomSet) where
  abbrev asked : List Atom
  asked = asked_from 0 (atoms_of_pair p) set

  asks : (x : Atom) → Has x asked → Asks p set x
  asks x h = let a = asked_has 0 (atoms_of_pair p) set x h in record { number = a.0; there = record { bit = ap (bit_at set.0) (let z : a.0 ≡ 0 + a.0 = omega arith in z) ∙ a.1 }; atom = a.2 }

  is_asked : (x : Atom) → Asks p set x → Has x asked
  is_asked x a = has_asked 0 (atoms_of_pair p) set x a.number (ap (bit_at set.0) (let z : 0 + a.number ≡ a.number = omega arith in z) ∙ a.there.bit) a.atom

  abbrev links : Kind → List (ℕ × ℕ)
  links kind = flat_map (link_of kind) asked

  abbrev same_test : Kind → ℕ → ℕ → Bool
  same_test kind x y = nat_eq (class_of (links kind) x) (class_of (links kind) y)

  link_same : (kind : Kind) (x y : ℕ) → Has (x, y) (links kind) → AreSame kind (atoms_of_pair p) set x y
  link_same kind x y h =
      let f = has_from_flat_map (x, y) (link_of kind) asked h in
      let a = asks f.0 f.1 in
      linked {k = a.number} record { there = a.there; atom = a.atom ∙ ap Some (of_link kind f.0 x y f.2) }

  test_same : (kind : Kind) (x y : ℕ) → same_test kind x y ≡ true → AreSame kind (atoms_of_pair p) set x y
  test_same kind x y h =
      let to = class_related (AreSame kind (atoms_of_pair p) set) (λ x. reflexive) (λ x y q. symmetric q) (λ x y z q r. transitive q r) (links kind) (link_same kind) in
      let met : class_of (links kind) x ≡ class_of (links kind) y = eqb-true (class_of (links kind) x) (class_of (links kind) y) h in
      transitive (to x) (subst (λ c. AreSame kind (atoms_of_pair p) set c y) (sym met) (symmetric (to y)))

  same_class : (kind : Kind) (x y : ℕ) → AreSame kind (atoms_of_pair p) set x y → class_of (links kind) x ≡ class_of (links kind) y
  same_class kind x y reflexive = refl
  same_class kind x y (linked {k = k} l) = linked_class (links kind) x y (has_flat_map (equal kind x y) (x, y) (link_of kind) asked (is_asked (equal kind x y) record { number = k; there = l.there; atom = l.atom }) (to_link kind x y))
  same_class kind x y (symmetric h) = sym (same_class kind y x h)
  same_class kind x y (transitive {y = z} h j) = same_class kind x z h ∙ same_class kind z y j

  same_tested : (kind : Kind) (x y : ℕ) → AreSame kind (atoms_of_pair p) set x y → same_test kind x y ≡ true
  same_tested kind x y h = ap (λ c. nat_eq c (class_of (links kind) y)) (same_class kind x y h) ∙ eq_itself (class_of (links kind) y)

  -- the atom is one of Unique, one of NotNull, or one of RefAttrs, with symbols that are the same
  abbrev at_list : ℕ → ℕ → ℕ → Bool
  at_list r a l = same_test Leaves r (anchor p.anchors l) && same_test Lists a l

  abbrev makes_unique : ℕ → ℕ → Atom → Bool
  makes_unique r a (Unique l) = at_list r a l
  makes_unique r a _ = false

  abbrev makes_not_null : ℕ → ℕ → Atom → Bool
  makes_not_null r a (NotNull l) = at_list r a l
  makes_not_null r a _ = false

  abbrev makes_refer : ℕ → ℕ → ℕ → ℕ → Atom → Bool
  makes_refer r a s b (RefAttrs l m) = at_list r a l && at_list s b m
  makes_refer r a s b _ = false

  abbrev keeps : ℕ → ℕ → ℕ × ℕ → Bool
  keeps a b e = same_test Lists a e.0 && same_test Lists b e.1

  abbrev kept : List (ℕ × ℕ)
  kept = kept_below p.source p.anchors ++ kept_below p.dest p.anchors

  at_parts : (r a l : ℕ) → at_list r a l ≡ true → SameLeaf p set r (anchor p.anchors l) × SameList p set a l
  at_parts r a l h = let q = and_parts (same_test Leaves r (anchor p.anchors l)) (same_test Lists a l) h in (test_same Leaves r (anchor p.anchors l) q.0, test_same Lists a l q.1)

  at_from : (r a l : ℕ) → SameLeaf p set r (anchor p.anchors l) → SameList p set a l → at_list r a l ≡ true
  at_from r a l h j = and_from (same_test Leaves r (anchor p.anchors l)) (same_test Lists a l) (same_tested Leaves r (anchor p.anchors l) h) (same_tested Lists a l j)

  unique_holds : (r a : ℕ) (x : Atom) → Has x asked → makes_unique r a x ≡ true → Holds p set Unique r a
  unique_holds r a (Unique l) h t = let q = at_parts r a l t in record { list = l; asked = asks (Unique l) h; leaf = q.0; same = q.1 }
  unique_holds r a (RelEq u v) h t = absurd (false≢true t)
  unique_holds r a (AttrsEq u v) h t = absurd (false≢true t)
  unique_holds r a (PredEq u v) h t = absurd (false≢true t)
  unique_holds r a (NotNull u) h t = absurd (false≢true t)
  unique_holds r a (RefAttrs u v) h t = absurd (false≢true t)

  not_null_holds : (r a : ℕ) (x : Atom) → Has x asked → makes_not_null r a x ≡ true → Holds p set NotNull r a
  not_null_holds r a (NotNull l) h t = let q = at_parts r a l t in record { list = l; asked = asks (NotNull l) h; leaf = q.0; same = q.1 }
  not_null_holds r a (RelEq u v) h t = absurd (false≢true t)
  not_null_holds r a (AttrsEq u v) h t = absurd (false≢true t)
  not_null_holds r a (PredEq u v) h t = absurd (false≢true t)
  not_null_holds r a (Unique u) h t = absurd (false≢true t)
  not_null_holds r a (RefAttrs u v) h t = absurd (false≢true t)

  refer_holds : (r a s b : ℕ) (x : Atom) → Has x asked → makes_refer r a s b x ≡ true → Refers p set r a s b
  refer_holds r a s b (RefAttrs l m) h t =
      let q = and_parts (at_list r a l) (at_list s b m) t in
      let from = at_parts r a l q.0 in
      let to = at_parts s b m q.1 in
      record { from = l; to = m; asked = asks (RefAttrs l m) h; leaf = from.0; list = from.1; other_leaf = to.0; other_list = to.1 }
  refer_holds r a s b (RelEq u v) h t = absurd (false≢true t)
  refer_holds r a s b (AttrsEq u v) h t = absurd (false≢true t)
  refer_holds r a s b (PredEq u v) h t = absurd (false≢true t)
  refer_holds r a s b (Unique u) h t = absurd (false≢true t)
  refer_holds r a s b (NotNull u) h t = absurd (false≢true t)

  abbrev within_test : ℕ → ℕ → Bool
  within_test a b = same_test Lists a b || list_any (keeps a b) kept

  within_holds : (a b : ℕ) → within_test a b ≡ true → SameList p set a b ⊎ KeptBelow p set a b
  within_holds a b h = go (same_test Lists a b) refl h
    where
      go : (t : Bool) → same_test Lists a b ≡ t → (t || list_any (keeps a b) kept) ≡ true → SameList p set a b ⊎ KeptBelow p set a b
      go true e h = inl (test_same Lists a b e)
      go false e h =
          let f = has_list_any (keeps a b) kept h in
          let both = and_parts (same_test Lists a f.0.0) (same_test Lists b f.0.1) f.2 in
          inr record { upper = f.0.0; lower = f.0.1; kept = f.1; from = test_same Lists a f.0.0 both.0; to = test_same Lists b f.0.1 both.1 }

  or_true : (x : Bool) → (x || true) ≡ true
  or_true true = refl
  or_true false = refl

  within_tested : (a b : ℕ) → SameList p set a b ⊎ KeptBelow p set a b → within_test a b ≡ true
  within_tested a b (inl s) = ap (λ t. t || list_any (keeps a b) kept) (same_tested Lists a b s)
  within_tested a b (inr k) =
      ap (λ t. same_test Lists a b || t) (list_any_has (keeps a b) (k.upper, k.lower) kept k.kept (and_from (same_test Lists a k.upper) (same_test Lists b k.lower) (same_tested Lists a k.upper k.from) (same_tested Lists b k.lower k.to)))
      ∙ or_true (same_test Lists a b)

  -- what is known under the set
  abbrev pub computed : Known
  computed = record {
    rel = same_test Leaves;
    attr = same_test Lists;
    pred = same_test Preds;
    unique = λ r a. list_any (makes_unique r a) asked;
    not_null = λ r a. list_any (makes_not_null r a) asked;
    refs = λ r a s b. list_any (makes_refer r a s b) asked;
    within = within_test;
  }

  pub computed_under : Under p set computed
  computed_under = record {
    rel = λ r s. (test_same Leaves r s, same_tested Leaves r s);
    attr = λ a b. (test_same Lists a b, same_tested Lists a b);
    pred = λ x y. (test_same Preds x y, same_tested Preds x y);
    unique = λ r a. (
      λ t. let f = has_list_any (makes_unique r a) asked t in unique_holds r a f.0 f.1 f.2,
      λ h. list_any_has (makes_unique r a) (Unique h.list) asked (is_asked (Unique h.list) h.asked) (at_from r a h.list h.leaf h.same),
    );
    not_null = λ r a. (
      λ t. let f = has_list_any (makes_not_null r a) asked t in not_null_holds r a f.0 f.1 f.2,
      λ h. list_any_has (makes_not_null r a) (NotNull h.list) asked (is_asked (NotNull h.list) h.asked) (at_from r a h.list h.leaf h.same),
    );
    refs = λ r a s b. (
      λ t. let f = has_list_any (makes_refer r a s b) asked t in refer_holds r a s b f.0 f.1 f.2,
      λ h. list_any_has (makes_refer r a s b) (RefAttrs h.from h.to) asked (is_asked (RefAttrs h.from h.to) h.asked)
          (and_from (at_list r a h.from) (at_list s b h.to) (at_from r a h.from h.leaf h.list) (at_from s b h.to h.other_leaf h.other_list)),
    );
    within = λ a b. (within_holds a b, within_tested a b);
  }
