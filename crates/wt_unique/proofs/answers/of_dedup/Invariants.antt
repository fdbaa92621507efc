use Rattle.std.proofs.Common.{◌≡◌, ◌++◌, map, length}
use Rattle.wt_plan.specs.Tree.{plan_tree}
use Rattle.wt_plan.specs.Measures as measures
use Rattle.wt_known.specs.Sets.{is_whole}
use Rattle.wt_unique.specs.Answering.{either_each}
use Rattle.wt_unique.proofs.answers.of_dedup.Given as goal

abbrev pub invariant-sets : goal.invariant-sets
invariant-sets l =
    l.out ++ either_each l.inner (map (is_whole (measures.width (plan_tree l.plan))) l.sets)
    ≡ either_each l.initial.inner (map (is_whole (measures.width (plan_tree l.plan))) l.initial.sets)

abbrev pub decreases-sets : goal.decreases-sets
decreases-sets l = length l.inner
