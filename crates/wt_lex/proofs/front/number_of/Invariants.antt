use Rattle.std.proofs.Common.{◌≡◌, ◌≤◌, take, min}
use Rattle.wt_lex.specs.Fronts.{past_most, value}
use Rattle.wt_lex.proofs.front.number_of.Given as goal

abbrev pub invariant-loop-digit : goal.invariant-loop-digit
invariant-loop-digit l = record { value : l.n ≡ min past_most (value (take l.digit-index l.digits)); within : l.n ≤ past_most }
