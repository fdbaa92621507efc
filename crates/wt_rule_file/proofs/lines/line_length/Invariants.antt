use Rattle.std.proofs.Common.{◌≡◌, ◌+◌, drop}
use Rattle.wt_rule_file.specs.Reading.{until_lf}
use Rattle.wt_rule_file.proofs.lines.line_length.Given as goal

abbrev pub invariant-loop-i : goal.invariant-loop-i
invariant-loop-i l = until_lf l.text ≡ l.i + until_lf (drop l.i l.text)
