use Rattle.std.proofs.Common.{◌≡◌, ◌∷◌, map, take}
use Rattle.wt_plan.specs.Tree.{plan_tree}
use Rattle.wt_plan.specs.Measures as measures
use Rattle.wt_known.specs.Sets as facts
use Rattle.wt_unique.proofs.joining.left_rights.Given as goal

abbrev pub invariant-loop-set : goal.invariant-loop-set
invariant-loop-set l = l.out ≡ l.b ∷ map (facts.rights (measures.width (plan_tree l.left))) (take l.set-index l.set-items)
