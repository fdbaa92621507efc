use Rattle.wt_symbol.specs.Sides.{pair_of}
use Rattle.wt_form.specs.Under.{Provable}
use Rattle.wt_cores.specs.Cores.{Within}
use Rattle.wt_workers.proofs.verdict.grown.Given as goal

abbrev pub invariant-loop-i : goal.invariant-loop-i
invariant-loop-i g l = record {
  around : Within l.fn.set l.larger;
  unprovable : Provable (pair_of l.pair) l.larger l.steps → ⊥;
}
