use Rattle.std.proofs.Common.{ℕ, ◌<◌}
use Rattle.wt_constraint.specs.Sets.{HasAtom}
use Rattle.wt_board.proofs.near.first_outside.Given as goal

abbrev pub invariant-loop-i : goal.invariant-loop-i
invariant-loop-i l = (j : ℕ) → j < l.i → HasAtom l.set j → HasAtom l.other j
