-- What a stage makes of the rules found before.
use Rattle.std.specs.Prelude.{ℕ, List, map}
use Rattle.wt_board.specs.Rules.{AreRulesOf, rule_of}
use Rattle.wt_discover.specs.Files.{AreCounted}
use Rattle.wt_discover.specs.declared.lines.RuleLines.{RuleLines}
use Rattle.wt_rule.specs.declared.Rule.{Rule}
use Rattle.wt_symbol.specs.Sides.{PairTree}

-- the lines of these rules: where they are the rules of some pairs, the lines of those pairs and their number
abbrev pub AreLinesOf : List Rule → RuleLines → Type 0
AreLinesOf rules lines = (steps depth : ℕ) (pairs : List PairTree) → AreRulesOf steps depth pairs (map rule_of rules) → AreCounted steps depth pairs lines.text lines.count
