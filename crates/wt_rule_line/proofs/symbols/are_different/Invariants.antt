use Rattle.std.proofs.Common.{◌≡◌, drop}
use Rattle.wt_symbol.specs.Lawful.{all_different}
use Rattle.wt_rule_line.proofs.symbols.are_different.Given as goal

abbrev pub invariant-loop-i : goal.invariant-loop-i
invariant-loop-i l = all_different l.symbols ≡ all_different (drop l.i l.symbols)
