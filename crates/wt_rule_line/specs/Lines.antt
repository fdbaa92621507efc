-- What a rule's line states, and why a line is refused.
use Rattle.std.specs.Prelude.{◌≡◌, ℕ, List, Some, None, Result, Ok, Err}
use Rattle.std.specs.declared.option.Option.{Option}
use Rattle.wt_symbol.specs.declared.fault.PairFault.{PairFault}
use Rattle.wt_symbol.specs.Sides.{PairTree, pair_of, weight_of}
use Rattle.wt_symbol.specs.Lawful.{IsLawful, fault_of}
use Rattle.wt_constraint.specs.declared.set.AtomSet.{AtomSet}
use Rattle.wt_rule.specs.declared.Rule.{Rule}
use Rattle.wt_rule_text.specs.declared.parsed.Version.{Version}
use Rattle.wt_rule_text.specs.declared.parsed.Weights.{Weights}
use Rattle.wt_rule_text.specs.Trees.{RuleText}
use Rattle.wt_rule_text.specs.Forms.{IsLine}
use Rattle.wt_rule_line.specs.declared.fault.RuleFault.{RuleFault}
use Rattle.wt_rule_line.specs.declared.fault.RuleFault.TheVariants.{Syntax, Atom, Order, StatedWeight}
use Rattle.wt_rule_line.specs.declared.fault.RuleLineError.{RuleLineError}
use Rattle.wt_rule_line.specs.declared.fault.RuleLineError.TheVariants.{Fault, Memory}
use Rattle.wt_rule_line.specs.Pairs.{pair_of_text, fault_name}
use Rattle.wt_rule_line.specs.Sets.{AreAtomsOf, IsSetOf}

-- the weights that are stated, if they are, are those of the sides
abbrev pub HasWeights : PairTree → Option Weights → Type 0
HasWeights p None = Unit {0}
HasWeights p (Some w) = (w.source ≡ weight_of p.source) × (w.dest ≡ weight_of p.dest)

-- what is read states the rule of a lawful pair with a set of its atoms
pub record IsRuleOf (r : RuleText) (p : PairTree) (set : AtomSet) : Type 0 where
  pub pair : pair_of_text r ≡ p
  pub lawful : IsLawful p
  pub atoms : IsSetOf p set r.atoms
  pub weights : HasWeights p r.weights

-- what is read has this fault: the first of a pair that is not lawful; else an atom that is none of the pair; else the atoms stand in another
-- order than that of the pair's; else a weight is not that of its side
pub data HasFault (r : RuleText) : RuleFault → Type 0 where
  of_pair : {fault : PairFault} → fault_of (pair_of_text r) ≡ Some fault → HasFault r (fault_name fault)
  of_atoms : IsLawful (pair_of_text r) → (AreAtomsOf (pair_of_text r) r.atoms → ⊥) → HasFault r Atom
  of_order : IsLawful (pair_of_text r) → AreAtomsOf (pair_of_text r) r.atoms → ((set : AtomSet) → IsSetOf (pair_of_text r) set r.atoms → ⊥) → HasFault r Order
  of_weights : {set : AtomSet} → IsLawful (pair_of_text r) → IsSetOf (pair_of_text r) set r.atoms → (HasWeights (pair_of_text r) r.weights → ⊥) → HasFault r StatedWeight

-- the set of what is read, over its pair, where the weights are right as well; or its fault
abbrev pub Completes : RuleText → PairTree → Result AtomSet RuleLineError → Type 0
Completes r p (Ok set) = IsSetOf p set r.atoms × HasWeights p r.weights
Completes r p (Err (Fault f)) = HasFault r f
Completes r p (Err Memory) = Unit {0}

-- the rule that was made of what was read, or its fault
abbrev pub Judges : RuleText → Result Rule RuleLineError → Type 0
Judges r (Ok rule) = IsRuleOf r (pair_of rule.pair) rule.set
Judges r (Err (Fault f)) = HasFault r f
Judges r (Err Memory) = Unit {0}

-- the line, without its LF, states the rule of a pair with a set
pub record States (version : Version) (line : List ℕ) (p : PairTree) (set : AtomSet) : Type 0 where
  pub text : RuleText
  pub is_line : IsLine version text line
  pub is_rule : IsRuleOf text p set

-- the line is refused: it has not the form of a rule's line, or what it says has a fault
pub data IsRefused (version : Version) (line : List ℕ) : RuleFault → Type 0 where
  no_form : ((r : RuleText) → IsLine version r line → ⊥) → IsRefused version line Syntax
  has_fault : {r : RuleText} {f : RuleFault} → IsLine version r line → HasFault r f → IsRefused version line f

-- what a line gives
abbrev pub GivesRule : Version → List ℕ → Result Rule RuleLineError → Type 0
GivesRule version line (Ok rule) = States version line (pair_of rule.pair) rule.set
GivesRule version line (Err (Fault f)) = IsRefused version line f
GivesRule version line (Err Memory) = Unit {0}
