use Rattle.std.proofs.Common.{◌≡◌, ◌+◌, ◌≤◌, length, false}
use Rattle.wt_lex.specs.Fronts.{closing}
use Rattle.wt_lex.proofs.front.closing.Given as goal

abbrev pub invariant-bytes : goal.invariant-bytes
invariant-bytes l = (closing l.quote l.seen l.at l.text ≡ closing l.quote false 1 l.initial.text) × (l.at + length l.text ≡ length l.initial.text + 1) × (1 ≤ l.at)

abbrev pub decreases-bytes : goal.decreases-bytes
decreases-bytes l = length l.text
