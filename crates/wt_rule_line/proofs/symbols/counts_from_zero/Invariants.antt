use Rattle.std.proofs.Common.{◌≡◌, drop}
use Rattle.wt_symbol.specs.Lawful.{counts_up}
use Rattle.wt_rule_line.proofs.symbols.counts_from_zero.Given as goal

abbrev pub invariant-loop-i : goal.invariant-loop-i
invariant-loop-i l = counts_up 0 l.symbols ≡ counts_up l.i (drop l.i l.symbols)
