use Rattle.std.proofs.Common.{◌≡◌, ◌-◌, ◌^◌, ◌<◌, min, drop}
use Rattle.wt_rule_text.specs.Numbers.{read_on, value}
use Rattle.wt_rule_text.proofs.scan.value.Given as goal

abbrev pub invariant-loop-digit : goal.invariant-loop-digit
invariant-loop-digit l = (l.value < 2 ^ 64) × (min (read_on l.value (drop l.digit-index l.digits)) (2 ^ 64 - 1) ≡ value l.digits)
