-- Classes of symbols: being of one class is an equivalence, and what merging two classes does.
use Rattle.std.proofs.Common.{ℕ, ◌≡◌, ◌<◌, ◌⊎◌, inl, inr, Bool, true, false, ◌&&◌, cond, List, length, nat_eq, nat_lt, refl, sym, ap, ◌∙◌, subst, arith, eqb-true, eq-eqb}
use Rattle.std.specs.Prelude.{slice_index_or}
use Rattle.std.proofs.lemmas.Bool.Decides.{nat_tests}
use Rattle.wt_bag.proofs.PairsByLaws.{IsEquivalent}
use Rattle.wt_constraint.specs.declared.atom.Atom.{Atom}
use Rattle.wt_constraint.specs.declared.atom.Kind.{Kind}
use Rattle.wt_constraint.specs.Atoms.{equal}
use Rattle.wt_facts.specs.Sames.{same_class, Merged, Linked}

-- the classes of two symbols are given and equal
pub record Inside (classes : List ℕ) (i j : ℕ) : Type 0 where
  pub first : i < length classes
  pub second : j < length classes
  pub equal : slice_index_or classes i 0 ≡ slice_index_or classes j 0

pub class_tells : (classes : List ℕ) (i j : ℕ) → same_class classes i j ≡ true → (i ≡ j) ⊎ Inside classes i j
class_tells classes i j h = go (nat_lt i (length classes)) refl (nat_lt j (length classes)) refl h
  where
    go : (a : Bool) → nat_lt i (length classes) ≡ a → (b : Bool) → nat_lt j (length classes) ≡ b → cond (a && b) (nat_eq (slice_index_or classes i 0) (slice_index_or classes j 0)) (nat_eq i j) ≡ true → (i ≡ j) ⊎ Inside classes i j
    go true e true f h = inr (record { first = grind (arith, nat_tests); second = grind (arith, nat_tests); equal = eqb-true _ _ h })
    go true e false f h = inl (eqb-true i j h)
    go false e b f h = inl (eqb-true i j h)

pub class_same : (classes : List ℕ) (i : ℕ) → same_class classes i i ≡ true
class_same classes i = go (nat_lt i (length classes) && nat_lt i (length classes))
  where
    go : (b : Bool) → cond b (nat_eq (slice_index_or classes i 0) (slice_index_or classes i 0)) (nat_eq i i) ≡ true
    go true = eq-eqb _ _ refl
    go false = eq-eqb i i refl

pub class_inside : (classes : List ℕ) (i j : ℕ) → Inside classes i j → same_class classes i j ≡ true
class_inside classes i j h =
    let a : nat_lt i (length classes) ≡ true = let l = h.first in grind (arith, nat_tests) in
    let b : nat_lt j (length classes) ≡ true = let l = h.second in grind (arith, nat_tests) in
    ap (λ t. cond (t && nat_lt j (length classes)) (nat_eq (slice_index_or classes i 0) (slice_index_or classes j 0)) (nat_eq i j)) a
    ∙ ap (λ t. cond t (nat_eq (slice_index_or classes i 0) (slice_index_or classes j 0)) (nat_eq i j)) b
    ∙ eq-eqb (slice_index_or classes i 0) (slice_index_or classes j 0) h.equal

class_from : (classes : List ℕ) (i j : ℕ) → (i ≡ j) ⊎ Inside classes i j → same_class classes i j ≡ true
class_from classes i j (inl e) = subst (λ k. same_class classes i k ≡ true) e (class_same classes i)
class_from classes i j (inr h) = class_inside classes i j h

class_back : (classes : List ℕ) (i j : ℕ) → (i ≡ j) ⊎ Inside classes i j → (j ≡ i) ⊎ Inside classes j i
class_back classes i j (inl e) = inl (sym e)
class_back classes i j (inr h) = inr (record { first = h.second; second = h.first; equal = sym h.equal })

class_on : (classes : List ℕ) (i j k : ℕ) → (i ≡ j) ⊎ Inside classes i j → (j ≡ k) ⊎ Inside classes j k → (i ≡ k) ⊎ Inside classes i k
class_on classes i j k (inl e) g = subst (λ x. (x ≡ k) ⊎ Inside classes x k) (sym e) g
class_on classes i j k (inr h) (inl e) = subst (λ x. (i ≡ x) ⊎ Inside classes i x) e (inr h)
class_on classes i j k (inr h) (inr g) = inr (record { first = h.first; second = g.second; equal = h.equal ∙ g.equal })

pub class_law : (classes : List ℕ) → IsEquivalent (same_class classes)
class_law classes = record {
  reflexive = class_same classes;
  symmetric = λ i j h. class_from classes j i (class_back classes i j (class_tells classes i j h));
  transitive = λ i j k h g. class_from classes i k (class_on classes i j k (class_tells classes i j h) (class_tells classes j k g));
}

module _ (old new : List ℕ) (x y : ℕ) (within_x : x < length old) (within_y : y < length old) (m : Merged old new x y) where
  of : List ℕ → ℕ → ℕ
  of classes i = slice_index_or classes i 0

  -- classes that were one stay so
  pub merged_kept : (i j : ℕ) → same_class old i j ≡ true → same_class new i j ≡ true
  merged_kept i j h = go (class_tells old i j h)
    where
      go : (i ≡ j) ⊎ Inside old i j → same_class new i j ≡ true
      go (inl e) = class_from new i j (inl e)
      go (inr s) = class_inside new i j (record {
        first = subst (λ n. i < n) (sym m.size) s.first;
        second = subst (λ n. j < n) (sym m.size) s.second;
        equal = m.at i s.first ∙ ap (λ c. cond (nat_eq c (slice_index_or old x 0)) (slice_index_or old y 0) c) s.equal ∙ sym (m.at j s.second);
      })

  -- the two symbols are of one class
  pub merged_joined : same_class new x y ≡ true
  merged_joined = class_inside new x y (record {
    first = subst (λ n. x < n) (sym m.size) within_x;
    second = subst (λ n. y < n) (sym m.size) within_y;
    equal = m.at x within_x ∙ ap (λ b. cond b (slice_index_or old y 0) (slice_index_or old x 0)) (eq-eqb (slice_index_or old x 0) (slice_index_or old x 0) refl)
        ∙ sym (m.at y within_y ∙ either (nat_eq (slice_index_or old y 0) (slice_index_or old x 0)));
  })
    where
      either : (b : Bool) → cond b (slice_index_or old y 0) (slice_index_or old y 0) ≡ slice_index_or old y 0
      either true = refl
      either false = refl

  -- no others are
  pub merged_sound : (i j : ℕ) → same_class new i j ≡ true → (same_class old i j ≡ true) ⊎
      (((same_class old i x ≡ true) × (same_class old j y ≡ true)) ⊎ ((same_class old i y ≡ true) × (same_class old j x ≡ true)))
  merged_sound i j h = go (class_tells new i j h)
    where
      go : (i ≡ j) ⊎ Inside new i j → (same_class old i j ≡ true) ⊎ (((same_class old i x ≡ true) × (same_class old j y ≡ true)) ⊎ ((same_class old i y ≡ true) × (same_class old j x ≡ true)))
      go (inl e) = inl (class_from old i j (inl e))
      go (inr s) =
          let first : i < length old = subst (λ n. i < n) m.size s.first in
          let second : j < length old = subst (λ n. j < n) m.size s.second in
          let e = sym (m.at i first) ∙ s.equal ∙ m.at j second in
          cases first second (nat_eq (slice_index_or old i 0) (slice_index_or old x 0)) refl (nat_eq (slice_index_or old j 0) (slice_index_or old x 0)) refl e
        where
          cases : i < length old → j < length old → (a : Bool) → nat_eq (slice_index_or old i 0) (slice_index_or old x 0) ≡ a → (b : Bool) → nat_eq (slice_index_or old j 0) (slice_index_or old x 0) ≡ b →
              cond a (slice_index_or old y 0) (slice_index_or old i 0) ≡ cond b (slice_index_or old y 0) (slice_index_or old j 0) →
              (same_class old i j ≡ true) ⊎ (((same_class old i x ≡ true) × (same_class old j y ≡ true)) ⊎ ((same_class old i y ≡ true) × (same_class old j x ≡ true)))
          cases p q true e true f g = inl (class_inside old i j (record { first = p; second = q; equal = eqb-true _ _ e ∙ sym (eqb-true _ _ f) }))
          cases p q false e false f g = inl (class_inside old i j (record { first = p; second = q; equal = g }))
          cases p q true e false f g = inr (inl (class_inside old i x (record { first = p; second = within_x; equal = eqb-true _ _ e }), class_inside old j y (record { first = q; second = within_y; equal = sym g })))
          cases p q false e true f g = inr (inr (class_inside old i y (record { first = p; second = within_y; equal = g }), class_inside old j x (record { first = q; second = within_x; equal = eqb-true _ _ f })))

-- an atom of the kind that is asked joins its symbols
pub linked_merged : (kind : Kind) (atom : Atom) (old new : List ℕ) (x y : ℕ) → atom ≡ equal kind x y → ((v w : ℕ) → atom ≡ equal kind v w → (v ≡ x) × (w ≡ y)) → x < length old → y < length old → Merged old new x y → Linked kind true atom old new
linked_merged kind atom old new x y e only wx wy m = record {
  size = m.size;
  kept = merged_kept old new x y wx wy m;
  joined = λ v w _ f. let p = only v w f in subst (λ a. same_class new a w ≡ true) (sym p.0) (subst (λ b. same_class new x b ≡ true) (sym p.1) (merged_joined old new x y wx wy m));
  sound = λ i j h. elim (merged_sound old new x y wx wy m i j h) [ inl s ↦ inl s | inr s ↦ inr (x, y, refl, e, s) ];
}

pub linked_none : (kind : Kind) (asked : Bool) (atom : Atom) (classes : List ℕ) → ((x y : ℕ) → asked ≡ true → atom ≡ equal kind x y → ⊥) → Linked kind asked atom classes classes
linked_none kind asked atom classes none = record { size = refl; kept = λ i j h. h; joined = λ x y a e. absurd (none x y a e); sound = λ i j h. inl h }
