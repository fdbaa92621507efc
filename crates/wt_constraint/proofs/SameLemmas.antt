-- What is marked along links.
use Rattle.std.proofs.Common.{◌≡◌, ◌≢◌, ℕ, zero, suc, ◌<◌, ◌⊎◌, Bool, true, false, List, length, get_or, set, replicate, Some, inl, inr, refl, sym, ap, ◌∙◌, arith}
use Rattle.wt_constraint.specs.declared.atom.Atom.{Atom}
use Rattle.wt_constraint.specs.declared.atom.Kind.{Kind}
use Rattle.wt_constraint.specs.declared.atom.Kind.TheVariants.{Leaves, Lists, Preds}
use Rattle.wt_constraint.specs.Atoms.{equal}
use Rattle.wt_constraint.specs.Sets.{HasAtom}
use Rattle.std.specs.Prelude.{◌==◌, ◌||◌, ◌↔◌, if◌then◌else◌}
use Rattle.std.proofs.lemmas.Grind.{common_steps}
use Rattle.std.proofs.lemmas.Bool.{cases_eq}
use Rattle.std.proofs.lemmas.List.{get_or-set_other}
use Rattle.std.proofs.lemmas.Option.{slice_get-get_or, get_or_from_slice_get, slice_get_within}
use Rattle.wt_constraint.specs.declared.set.AtomSet.{AtomSet}
use Rattle.wt_constraint.specs.Sameness.{IsLink, AreSame, reflexive, linked, symmetric, transitive}

-- a test that agrees along each link agrees on symbols that are the same
pub agrees : {kind : Kind} {atoms : List Atom} {set : AtomSet} (reached : ℕ → Bool) → ((k x y : ℕ) → IsLink kind atoms set k x y → reached x ≡ reached y) →
    {x y : ℕ} → AreSame kind atoms set x y → reached x ≡ reached y
agrees reached along reflexive = refl
agrees reached along (linked h) = along _ _ _ h
agrees reached along (symmetric h) = sym (agrees reached along h)
agrees reached along (transitive h g) = agrees reached along h ∙ agrees reached along g

-- two atoms of one kind are equal where their ends are
pub same_ends : (kind : Kind) (x y u v : ℕ) → equal kind x y ≡ equal kind u v → (x ≡ u) × (y ≡ v)
same_ends Leaves x y u v h = (cc, cc)
same_ends Lists x y u v h = (cc, cc)
same_ends Preds x y u v h = (cc, cc)

pub link_found : (kind : Kind) (items atoms : List Atom) (set : AtomSet) (k a x y : ℕ) (d : Atom) → items ≡ atoms → k < length items → a ≡ k → HasAtom set k →
    get_or items k d ≡ equal kind x y → IsLink kind atoms set a x y
link_found kind items atoms set k a x y d same within e has is = record {
  there = rw e has;
  atom = rw (e, ← same) (slice_get-get_or items k d within ∙ ap Some is);
}

pub link_read : (kind : Kind) (items atoms : List Atom) (set : AtomSet) (k x y : ℕ) (d : Atom) → items ≡ atoms → IsLink kind atoms set k x y → get_or items k d ≡ equal kind x y
link_read kind items atoms set k x y d same link = rw same (get_or_from_slice_get atoms k (equal kind x y) d link.atom)

pub link_within : (kind : Kind) (items atoms : List Atom) (set : AtomSet) (k x y : ℕ) → items ≡ atoms → IsLink kind atoms set k x y → k < length items
link_within kind items atoms set k x y same link = rw same (slice_get_within atoms k (equal kind x y) link.atom)

marked_here : (z x y : ℕ) (b old new : Bool) → (z ≡ x) ⊎ (z ≡ y) → new ≡ (if (z == x) || (z == y) then true else old) → new ≡ true
marked_here z x y b old new at is = elim at [ inl e ↦ grind (arith, common_steps) | inr e ↦ grind (arith, common_steps) ]

still_marked : (b old new : Bool) → new ≡ (if b then true else old) → old ≡ true → new ≡ true
still_marked true old new is h = is
still_marked false old new is h = is ∙ h

-- one link is followed
module _ (kind : Kind) (atoms : List Atom) (set left left' : AtomSet) (reached reached' : ℕ → Bool) (i a x y : ℕ)
    (within : (k : ℕ) → HasAtom left k → HasAtom set k)
    (kept : reached i ≡ true)
    (followed : (k u v : ℕ) → IsLink kind atoms set k u v → HasAtom left k ⊎ ((reached u ≡ true) × (reached v ≡ true)))
    (from : (z : ℕ) → reached z ≡ true → AreSame kind atoms set i z)
    (link : IsLink kind atoms left a x y) (end : (reached x ≡ true) ⊎ (reached y ≡ true))
    (marked : (z : ℕ) → reached' z ≡ (if (z == x) || (z == y) then true else reached z))
    (members : (k : ℕ) → HasAtom left' k ↔ (HasAtom left k × (k ≢ a))) where
  pub within_next : (k : ℕ) → HasAtom left' k → HasAtom set k
  within_next k has = within k ((members k).0 has).0

  pub kept_next : reached' i ≡ true
  kept_next = still_marked ((i == x) || (i == y)) (reached i) (reached' i) (marked i) kept

  pub followed_next : (k u v : ℕ) → IsLink kind atoms set k u v → HasAtom left' k ⊎ ((reached' u ≡ true) × (reached' v ≡ true))
  followed_next k u v l =
      elim (followed k u v l) [
        | inl has ↦
            elim (cases_eq k a) [
              | inl e ↦
                  let same : Some (equal kind u v) ≡ Some (equal kind x y) = sym l.atom ∙ rw e link.atom in
                  let atom : equal kind u v ≡ equal kind x y = cc in
                  let ends = same_ends kind u v x y atom in
                  inr (marked_here u x y true (reached u) (reached' u) (inl ends.0) (marked u), marked_here v x y true (reached v) (reached' v) (inr ends.1) (marked v))
              | inr ne ↦ inl ((members k).1 (has, ne))
            ]
        | inr both ↦
            inr (
              still_marked ((u == x) || (u == y)) (reached u) (reached' u) (marked u) both.0,
              still_marked ((v == x) || (v == y)) (reached v) (reached' v) (marked v) both.1,
            )
      ]

  of_set : IsLink kind atoms set a x y
  of_set = record { there = within a link.there; atom = link.atom }

  ends : AreSame kind atoms set i x × AreSame kind atoms set i y
  ends =
      elim end [
        | inl at_x ↦ (from x at_x, transitive (from x at_x) (linked of_set))
        | inr at_y ↦ (transitive (from y at_y) (symmetric (linked of_set)), from y at_y)
      ]

  pub from_next : (z : ℕ) → reached' z ≡ true → AreSame kind atoms set i z
  from_next z h =
      elim (cases_eq z x) [
        | inl e ↦ rw e ends.0
        | inr ne ↦
            elim (cases_eq z y) [
              | inl f ↦ rw f ends.1
              | inr nf ↦ let old : reached z ≡ true = grind (arith, common_steps, marked z) in from z old
            ]
      ]

-- nothing is marked at first
pub none_marked : (n x : ℕ) → get_or (replicate n false) x false ≡ false
none_marked zero x = refl
none_marked (suc n) zero = refl
none_marked (suc n) (suc x) = none_marked n x

pub one_marked : (xs : List Bool) (i x : ℕ) → ((x : ℕ) → get_or xs x false ≡ false) → get_or (set xs i true) x false ≡ true → x ≡ i
one_marked xs i x none h =
    elim (cases_eq x i) [
      | inl e ↦ e
      | inr ne ↦ let other = get_or-set_other xs i x true false ne in let old = none x in absurd (cc)
    ]
