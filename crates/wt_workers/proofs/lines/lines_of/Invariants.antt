use Rattle.std.proofs.Common.{◌≡◌, take}
use Rattle.std.specs.List.{flat_map}
use Rattle.wt_workers.specs.LineOf.{line_of_rule}
use Rattle.wt_workers.proofs.lines.lines_of.Given as goal

abbrev pub invariant-loop-rule : goal.invariant-loop-rule
invariant-loop-rule l = l.text.items ≡ flat_map line_of_rule (take l.rule-index l.rules)
