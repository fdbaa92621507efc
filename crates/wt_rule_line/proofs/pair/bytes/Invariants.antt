use Rattle.std.proofs.Common.{◌≡◌, map, take}
use Rattle.wt_rule_line.specs.Pairs.{in_byte}
use Rattle.wt_rule_line.proofs.pair.bytes.Given as goal

abbrev pub invariant-loop-n : goal.invariant-loop-n
invariant-loop-n l = l.bytes ≡ map in_byte (take l.n-index l.numbers)
