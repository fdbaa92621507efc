use Rattle.std.proofs.Common.{◌++◌, List}
use Rattle.wt_plan.specs.Tree.{PlanTree, plan_tree}
use Rattle.wt_plan.specs.Measures.{cost}
use Rattle.wt_plan.specs.Regular.{Regular}
use Rattle.wt_chains.specs.declared.applied.Applied.{Applied}
use Rattle.wt_chains.specs.Chains.{IsChain}
use Rattle.wt_rewrite.proofs.rewriting.rewrite.Given as goal

abbrev pub invariant-steps : goal.invariant-steps
invariant-steps g l = record {
  regular : Regular (g.F.Facts.tables l.facts) (plan_tree l.so_far.plan);
  chain : (rest : List Applied) (end : PlanTree) → IsChain (g.F.Facts.tables l.facts) l.book.rules (plan_tree l.so_far.plan) rest end
      → IsChain (g.F.Facts.tables l.facts) l.book.rules (plan_tree l.fn.plan) (l.so_far.trace.items ++ rest) end;
}

abbrev pub decreases-steps : goal.decreases-steps
decreases-steps g l = cost (plan_tree l.so_far.plan)
