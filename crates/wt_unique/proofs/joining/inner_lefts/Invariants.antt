use Rattle.std.proofs.Common.{◌≡◌, ◌∷◌, map, take}
use Rattle.wt_plan.specs.Tree.{plan_tree}
use Rattle.wt_plan.specs.Measures as measures
use Rattle.wt_unique.specs.Asking.{paired_lefts}
use Rattle.wt_unique.proofs.joining.inner_lefts.Given as goal

abbrev pub invariant-loop-set : goal.invariant-loop-set
invariant-loop-set l = l.out ≡ l.a ∷ map (paired_lefts (measures.width (plan_tree l.left)) l.a l.b) (take l.set-index l.set-items)
