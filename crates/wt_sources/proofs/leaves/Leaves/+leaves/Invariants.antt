use Rattle.std.proofs.Common.{◌≤◌}
use Rattle.wt_sources.specs.declared.leaves.Leaves.{size-Leaves}
use Rattle.wt_sources.proofs.leaves.Leaves.+leaves.Given as goal

abbrev pub invariant-loop-self : goal.invariant-loop-self
invariant-loop-self l = size-Leaves l.self ≤ size-Leaves l.fn.self
