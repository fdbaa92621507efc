-- The set of atoms that a rule's line states.
use Rattle.std.specs.Prelude.{◌≡◌, ℕ, ◌/◌, ◌%◌, ◌^◌, ◌<◌, ◌==◌, List, [], ◌∷◌, map, length, Result, Ok, Err, if◌then◌else◌}
use Rattle.wt_bag.specs.Bags.{Each}
use Rattle.wt_bag.specs.Choices.{Has}
use Rattle.wt_symbol.specs.Sides.{PairTree}
use Rattle.wt_symbol.specs.Heads.{anchor}
use Rattle.wt_constraint.specs.declared.atom.Atom.{Atom}
use Rattle.wt_constraint.specs.declared.atom.Atom.TheVariants as atoms
use Rattle.wt_constraint.specs.declared.set.AtomSet.{AtomSet}
use Rattle.wt_constraint.specs.Atoms.{atoms_of_pair}
use Rattle.wt_rule.specs.Texts.{chosen}
use Rattle.wt_rule_text.specs.declared.parsed.ParsedAtom.{ParsedAtom}
use Rattle.wt_rule_text.specs.declared.parsed.ParsedAtom.TheVariants.{RelEq, AttrsEq, PredEq, Unique, NotNull, RefAttrs}
use Rattle.wt_rule_line.specs.declared.fault.RuleFault.TheVariants as faults
use Rattle.wt_rule_line.specs.declared.fault.RuleLineError.{RuleLineError}
use Rattle.wt_rule_line.specs.declared.fault.RuleLineError.TheVariants.{Fault, Memory}

-- an atom as a line has it, each list that stands alone behind its anchor
abbrev pub as_written : List ℕ → Atom → ParsedAtom
as_written anchors (atoms.RelEq x y) = RelEq x y
as_written anchors (atoms.AttrsEq x y) = AttrsEq x y
as_written anchors (atoms.PredEq x y) = PredEq x y
as_written anchors (atoms.Unique a) = Unique (anchor anchors a) a
as_written anchors (atoms.NotNull a) = NotNull (anchor anchors a) a
as_written anchors (atoms.RefAttrs a b) = RefAttrs (anchor anchors a) a (anchor anchors b) b

-- the atoms of the pair as lines have them
abbrev pub written_atoms_of : PairTree → List ParsedAtom
written_atoms_of p = map (as_written p.anchors) (atoms_of_pair p)

-- each is an atom of the pair
abbrev pub AreAtomsOf : PairTree → List ParsedAtom → Type 0
AreAtomsOf p list = Each (λ a. Has a (written_atoms_of p)) list

-- they are the atoms of this set, in their order
pub record IsSetOf (p : PairTree) (set : AtomSet) (list : List ParsedAtom) : Type 0 where
  pub within : set.0 < 2 ^ length (atoms_of_pair p)
  pub atoms : map (as_written p.anchors) (chosen set 0 (atoms_of_pair p)) ≡ list

-- the set that is found, or why there is none: an atom that is none of the pair, or another order
abbrev pub FindsSet : PairTree → List ParsedAtom → Result AtomSet RuleLineError → Type 0
FindsSet p list (Ok set) = IsSetOf p set list
FindsSet p list (Err (Fault faults.Atom)) = AreAtomsOf p list → ⊥
FindsSet p list (Err (Fault faults.Order)) = AreAtomsOf p list × ((set : AtomSet) → IsSetOf p set list → ⊥)
FindsSet p list (Err Memory) = Unit {0}
FindsSet p list (Err (Fault f)) = ⊥

-- the elements at the bits of a number, the lowest bit being the first
abbrev pub picked : {A : Type 0} → ℕ → List A → List A
picked n [] = []
picked n (x ∷ xs) = if n % 2 == 1 then x ∷ picked (n / 2) xs else picked (n / 2) xs
