use Rattle.std.proofs.Common.{◌+◌, ◌*◌}
use Rattle.wt_bag.specs.Choices.{Has}
use Rattle.wt_symbol.specs.Sides.{pair_of}
use Rattle.wt_constraint.specs.declared.set.AtomSet.{AtomSet}
use Rattle.wt_cores.specs.Cores.{missing, AreFound, AllBetween, Given}
use Rattle.wt_cores.proofs.search.+search.Given as goal

abbrev pub decreases-search : goal.decreases-search
decreases-search g l = 4 * missing 64 l.all l.set + 3

abbrev pub decreases-branch : goal.decreases-branch
decreases-branch g l = 4 * missing 64 l.all l.set + 2

abbrev pub decreases-branch_by : goal.decreases-branch_by
decreases-branch_by g l = 4 * missing 64 l.all l.set + 1

abbrev pub decreases-branch_at : goal.decreases-branch_at
decreases-branch_at g l = 4 * missing 64 l.all l.set

abbrev pub invariant-branch-loop-i : goal.invariant-branch-loop-i
invariant-branch-loop-i g l = record {
  found : AreFound (pair_of l.pair) l.steps l.found.cores.items l.found.refused.items;
  kept : (s : AtomSet) → Has s l.fn.found.cores.items → Has s l.found.cores.items;
  given : Given l.free l.refused l.i l.given;
  between : AllBetween (pair_of l.pair) l.steps l.set l.given l.found.cores.items;
}
