-- Rules as lines have them, without pointers.
use Rattle.std.specs.Prelude.{ℕ, List}
use Rattle.std.specs.declared.option.Option.{Option}
use Rattle.wt_rule_text.specs.declared.parsed.Unary.{Unary}
use Rattle.wt_rule_text.specs.declared.parsed.Binary.{Binary}
use Rattle.wt_rule_text.specs.declared.parsed.ParsedSide.{ParsedSide}
use Rattle.wt_rule_text.specs.declared.parsed.ParsedSide.TheVariants.{Input, One', Two'}
use Rattle.wt_rule_text.specs.declared.parsed.ParsedAtom.{ParsedAtom}
use Rattle.wt_rule_text.specs.declared.parsed.ParsedRule.{ParsedRule}
use Rattle.wt_rule_text.specs.declared.parsed.Weights.{Weights}

-- an input by its leaf, or an operator over its operands
pub data SideText : Type 0 where
  input : ℕ → SideText
  one : Unary → SideText → SideText
  two : Binary → SideText → SideText → SideText

-- the side, its boxes forgotten
abbrev pub side_of : ParsedSide → SideText
side_of (Input r) = input r
side_of (One' u p s) = one u (side_of s)
side_of (Two' b p s q t) = two b (side_of s) (side_of t)

-- a rule: its sides, its atoms in the order of the line, and the weights that the line states, if it does
pub record RuleText : Type 0 where
  pub source : SideText
  pub dest : SideText
  pub atoms : List ParsedAtom
  pub weights : Option Weights

-- the rule, the boxes of its sides forgotten
abbrev pub rule_of : ParsedRule → RuleText
rule_of r = record { source = side_of r.source; dest = side_of r.dest; atoms = r.atoms; weights = r.weights }
