-- The set that is found by its number.
use Rattle.std.specs.Prelude.{◌==◌, if◌then◌else◌}
use Rattle.std.proofs.Common.{◌≡◌, ℕ, ◌/◌, ◌%◌, ◌^◌, ◌<◌, true, false, inl, inr, List, [], ◌∷◌, length, refl, sym, ap, subst, ◌∙◌}
use Rattle.std.proofs.lemmas.List.{length-map}
use Rattle.wt_bag.specs.Bags.{Each}
use Rattle.wt_bag.specs.Choices.{Apart, Has}
use Rattle.wt_symbol.specs.Sides.{PairTree}
use Rattle.wt_symbol.specs.Lawful.{IsLawful}
use Rattle.wt_constraint.specs.declared.set.AtomSet.{AtomSet}
use Rattle.wt_constraint.specs.Atoms.{atoms_of_pair}
use Rattle.wt_rule_text.specs.declared.parsed.ParsedAtom.{ParsedAtom}
use Rattle.wt_rule_line.specs.Sets.{as_written, written_atoms_of, AreAtomsOf, IsSetOf, picked}
use Rattle.wt_rule_line.proofs.Picked.{chosen_picked, picked_once}
use Rattle.wt_rule_line.proofs.AtomsApart.{written_apart}

pub apart_all : (p : PairTree) → IsLawful p → (all : List ParsedAtom) → all ≡ written_atoms_of p → Apart all
apart_all p lawful all is = subst Apart (sym is) (written_apart p lawful)

pub found_set : (p : PairTree) (all list : List ParsedAtom) (n : ℕ) → all ≡ written_atoms_of p → picked n all ≡ list → n < 2 ^ length all → IsSetOf p (record { 0 = n }) list
found_set p all list n is picks small = record {
  within = subst (λ k. n < 2 ^ k) (ap length is ∙ length-map (atoms_of_pair p) (as_written p.anchors)) small;
  atoms = chosen_picked (as_written p.anchors) (record { 0 = n }) (atoms_of_pair p) ∙ ap (picked n) (sym is) ∙ picks;
}

pub found_none : (p : PairTree) (all list : List ParsedAtom) → all ≡ written_atoms_of p → Each (λ a. Has a all) list → ((n : ℕ) → picked n all ≡ list → ⊥) →
    AreAtomsOf p list × ((set : AtomSet) → IsSetOf p set list → ⊥)
found_none p all list is among none = (
  subst (λ l. Each (λ a. Has a l) list) is among,
  λ set of. none set.0 (ap (picked set.0) is ∙ sym (chosen_picked (as_written p.anchors) set (atoms_of_pair p)) ∙ of.atoms),
)

-- some atoms are those of one set
pub one_set : (p : PairTree) → IsLawful p → (a b : AtomSet) (list : List ParsedAtom) → IsSetOf p a list → IsSetOf p b list → a ≡ b
one_set p lawful a b list is_a is_b =
    let count = length-map (atoms_of_pair p) (as_written p.anchors) in
    let small_a : a.0 < 2 ^ length (written_atoms_of p) = subst (λ k. a.0 < 2 ^ k) (sym count) is_a.within in
    let small_b : b.0 < 2 ^ length (written_atoms_of p) = subst (λ k. b.0 < 2 ^ k) (sym count) is_b.within in
    let same = picked_once (written_atoms_of p) (written_apart p lawful) a.0 b.0 small_a small_b
    (sym (chosen_picked (as_written p.anchors) a (atoms_of_pair p)) ∙ is_a.atoms ∙ sym is_b.atoms ∙ chosen_picked (as_written p.anchors) b (atoms_of_pair p)) in
    ap (λ n. record { 0 = n }) same

each_wider : {A : Type 0} (x : A) (xs ys : List A) → Each (λ a. Has a xs) ys → Each (λ a. Has a (x ∷ xs)) ys
each_wider x xs [] h = tt
each_wider x xs (y ∷ ys) h = (inr h.0, each_wider x xs ys h.1)

picked_among : {A : Type 0} (n : ℕ) (all : List A) → Each (λ a. Has a all) (picked n all)
picked_among n [] = tt
picked_among n (x ∷ xs) =
    let rest = each_wider x xs (picked (n / 2) xs) (picked_among (n / 2) xs) in
    elim (n % 2 == 1) as (λ b. Each (λ a. Has a (x ∷ xs)) (if b then x ∷ picked (n / 2) xs else picked (n / 2) xs)) [ true ↦ (inl refl, rest) | false ↦ rest ]

-- the atoms of a set are atoms of the pair
pub set_among : (p : PairTree) (set : AtomSet) (list : List ParsedAtom) → IsSetOf p set list → AreAtomsOf p list
set_among p set list is =
    subst (λ l. AreAtomsOf p l) (sym (chosen_picked (as_written p.anchors) set (atoms_of_pair p)) ∙ is.atoms) (picked_among set.0 (written_atoms_of p))
