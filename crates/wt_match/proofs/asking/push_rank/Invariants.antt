use Rattle.std.proofs.Common.{◌≡◌, ◌++◌, drop}
use Rattle.wt_match.specs.Asking.{of_rank}
use Rattle.wt_match.proofs.asking.push_rank.Given as goal

abbrev pub invariant-loop-atom : goal.invariant-loop-atom
invariant-loop-atom l = l.out.items ++ of_rank l.wanted (drop l.atom-index l.atoms) ≡ l.initial.out.items ++ of_rank l.wanted l.atoms
