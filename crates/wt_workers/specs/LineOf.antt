-- The line of a rule.
use Rattle.std.specs.Prelude.{ℕ, List}
use Rattle.wt_symbol.specs.Sides.{pair_of}
use Rattle.wt_rule.specs.declared.Rule.{Rule}
use Rattle.wt_rule.specs.Texts.{line_of}

abbrev pub line_of_rule : Rule → List ℕ
line_of_rule r = line_of (pair_of r.pair) r.set
