use Rattle.std.proofs.Common.{◌≡◌, ◌-◌, take, drop}
use Rattle.std.specs.Prelude.{map}
use Rattle.wt_reading.specs.Lexemes as spec
use Rattle.wt_front.proofs.lexemes.lexemes.Given as goal

abbrev pub invariant-loop-i : goal.invariant-loop-i
invariant-loop-i l = l.all.items ≡ map (spec.lexeme l.bytes) (take (l.i - l.from) (drop l.from l.tokens))
