use Rattle.wt_symbol.specs.Sides.{pair_of}
use Rattle.wt_workers.specs.Shrinking.{ShrinksBelow}
use Rattle.wt_workers.specs.Tasks.{AreNeededBy}
use Rattle.wt_workers.proofs.verdict.core_in.Given as goal

abbrev pub invariant-loop-i : goal.invariant-loop-i
invariant-loop-i g l = record {
  shrinks : ShrinksBelow (pair_of l.pair) l.steps l.i l.fn.set l.core;
  needed : AreNeededBy (pair_of l.pair) l.steps l.core l.needed;
}
