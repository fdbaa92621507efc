-- Linking the symbols of each atom of a set gives the classes of its closure.
use Rattle.std.proofs.Common.{ℕ, zero, suc, ◌≡◌, ◌<◌, ◌+◌, ◌↔◌, ◌⊎◌, inl, inr, IsTrue, Bool, true, List, [], ◌∷◌, length, sym, ap, ◌∙◌, subst, arith, Some}
use Rattle.std.specs.Prelude.{slice_get, slice_index_or}
use Rattle.std.proofs.lemmas.Bool.{cases_order}
use Rattle.std.proofs.lemmas.Option.{slice_get-get_or}
use Rattle.wt_bag.proofs.PairsByLaws.{IsEquivalent}
use Rattle.wt_constraint.specs.declared.atom.Atom.{Atom}
use Rattle.wt_constraint.specs.declared.atom.Kind.{Kind}
use Rattle.wt_constraint.specs.declared.set.AtomSet.{AtomSet}
use Rattle.wt_constraint.specs.Atoms.{equal}
use Rattle.wt_constraint.specs.Sets.{HasAtom}
use Rattle.wt_constraint.specs.Sameness.{IsLink, AreSame, reflexive, linked, symmetric, transitive}
use Rattle.wt_facts.specs.Sames.{same_class, Linked}
use Rattle.wt_facts.proofs.ClassLaws.{class_law, class_tells, Inside}

-- the classes after the first k atoms
pub record Classes (kind : Kind) (atoms : List Atom) (set : AtomSet) (k : ℕ) (classes : List ℕ) : Type 0 where
  pub size : length classes ≡ 256
  pub sound : (i j : ℕ) → same_class classes i j ≡ true → AreSame kind atoms set i j
  pub links : (n x y : ℕ) → n < k → IsLink kind atoms set n x y → same_class classes x y ≡ true

pub classes_none : (kind : Kind) (atoms : List Atom) (set : AtomSet) (classes : List ℕ) → length classes ≡ 256 → ((i : ℕ) → i < 256 → slice_index_or classes i 0 ≡ i) → Classes kind atoms set 0 classes
classes_none kind atoms set classes size own = record {
  size = size;
  sound = λ i j h. go i j (class_tells classes i j h);
  links = λ n x y l h. let bad : ⊥ = omega arith in absurd bad;
}
  where
    go : (i j : ℕ) → (i ≡ j) ⊎ Inside classes i j → AreSame kind atoms set i j
    go i j (inl e) = subst (λ x. AreSame kind atoms set i x) e reflexive
    go i j (inr s) =
        let e : i ≡ j = sym (own i (subst (λ n. i < n) size s.first)) ∙ s.equal ∙ own j (subst (λ n. j < n) size s.second) in
        subst (λ x. AreSame kind atoms set i x) e reflexive

same_some : {X : Type 0} (x y : X) → Some x ≡ Some y → x ≡ y
same_some x y e = cc

pub classes_more : (kind : Kind) (atoms : List Atom) (set : AtomSet) (k : ℕ) (old new : List ℕ) (asked : Bool) (atom : Atom) → (IsTrue asked ↔ HasAtom set k) → slice_get atoms k ≡ Some atom →
    Linked kind asked atom old new → Classes kind atoms set k old → Classes kind atoms set (k + 1) new
classes_more kind atoms set k old new asked atom has at l before = record {
  size = l.size ∙ before.size;
  sound = λ i j h. sound i j (l.sound i j h);
  links = λ n x y lt h. links n x y h (cases_order n k) lt;
}
  where
    link : (x y : ℕ) → asked ≡ true → atom ≡ equal kind x y → AreSame kind atoms set x y
    link x y a e = linked {k = k} (record { there = has.0 a; atom = at ∙ ap Some e })

    sound : (i j : ℕ) → (same_class old i j ≡ true) ⊎ ((x : ℕ) × (y : ℕ) × (asked ≡ true) × (atom ≡ equal kind x y) ×
        (((same_class old i x ≡ true) × (same_class old j y ≡ true)) ⊎ ((same_class old i y ≡ true) × (same_class old j x ≡ true)))) → AreSame kind atoms set i j
    sound i j (inl h) = before.sound i j h
    sound i j (inr h) = elim h.4 [
      | inl p ↦ transitive (before.sound i h.0 p.0) (transitive (link h.0 h.1 h.2 h.3) (symmetric (before.sound j h.1 p.1)))
      | inr p ↦ transitive (before.sound i h.1 p.0) (transitive (symmetric (link h.0 h.1 h.2 h.3)) (symmetric (before.sound j h.0 p.1)))
    ]

    links : (n x y : ℕ) → IsLink kind atoms set n x y → (n ≡ k) ⊎ ((n < k) ⊎ (k < n)) → n < k + 1 → same_class new x y ≡ true
    links n x y h (inl e) lt =
        let there : HasAtom set k = subst (HasAtom set) e h.there in
        let atom_is : atom ≡ equal kind x y = same_some atom (equal kind x y) (sym at ∙ ap (slice_get atoms) (sym e) ∙ h.atom) in
        l.joined x y (has.1 there) atom_is
    links n x y h (inr (inl before_k)) lt = l.kept x y (before.links n x y before_k h)
    links n x y h (inr (inr after_k)) lt = let bad : ⊥ = omega arith in absurd bad

pub get_within : {X : Type 0} (xs : List X) (n : ℕ) (x : X) → slice_get xs n ≡ Some x → n < length xs
get_within [] n x e = cc
get_within (y ∷ ys) zero x e = omega arith
get_within (y ∷ ys) (suc n) x e = omega (arith, get_within ys n x e)

-- after all atoms the classes are those of the closure
pub classes_all : (kind : Kind) (atoms : List Atom) (set : AtomSet) (k : ℕ) (classes : List ℕ) → k ≡ length atoms → Classes kind atoms set k classes → (i j : ℕ) → ((same_class classes i j ≡ true) ↔ AreSame kind atoms set i j)
classes_all kind atoms set k classes e all i j = (all.sound i j, closed i j)
  where
    law : IsEquivalent (same_class classes)
    law = class_law classes

    closed : (x y : ℕ) → AreSame kind atoms set x y → same_class classes x y ≡ true
    closed x y (reflexive {x = z}) = law.reflexive z
    closed x y (linked {k = n} {x = v} {y = w} h) = all.links n v w (subst (λ m. n < m) (sym e) (get_within atoms n (equal kind v w) h.atom)) h
    closed x y (symmetric {x = v} {y = w} h) = law.symmetric v w (closed v w h)
    closed x y (transitive {x = u} {y = v} {z = w} h g) = law.transitive u v w (closed u v h) (closed v w g)

-- the k-th element, as a loop over the elements has it
pub at_place : (atoms items : List Atom) (k : ℕ) (d : Atom) → items ≡ atoms → k < length items → slice_get atoms k ≡ Some (slice_index_or items k d)
at_place atoms items k d e l = ap (λ xs. slice_get xs k) (sym e) ∙ slice_get-get_or items k d l
