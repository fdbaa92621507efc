use Rattle.std.proofs.Common.{◌≡◌, ◌+◌, drop}
use Rattle.wt_rule_text.specs.Reading.{leading}
use Rattle.wt_rule_text.proofs.scan.leading_digits.Given as goal

abbrev pub invariant-loop-i : goal.invariant-loop-i
invariant-loop-i l = leading l.text ≡ l.i + leading (drop l.i l.text)
