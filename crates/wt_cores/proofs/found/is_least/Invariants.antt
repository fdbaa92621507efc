use Rattle.std.proofs.Common.{ℕ, ◌≡◌, ◌<◌}
use Rattle.wt_symbol.specs.Sides.{pair_of}
use Rattle.wt_cores.specs.Cores.{AreFound, IsNeeded}
use Rattle.wt_cores.proofs.found.is_least.Given as goal

abbrev pub invariant-loop-i : goal.invariant-loop-i
invariant-loop-i g l = record {
  found : AreFound (pair_of l.pair) l.steps l.found.cores.items l.found.refused.items;
  cores : l.found.cores.items ≡ l.fn.found.cores.items;
  each : (j : ℕ) → j < l.i → IsNeeded (pair_of l.pair) l.steps l.set j;
}
