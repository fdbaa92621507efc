-- The operands of a plan's root, and where they stand in it. Private contracts alone cite this file.
use Rattle.std.specs.Prelude.{◌≡◌, ◌+◌}
use Rattle.wt_plan.specs.Tree.{PlanTree, plan_tree}
use Rattle.wt_plan.specs.Measures.{node_count}
use Rattle.wt_matching.specs.Nodes.{at}
use Rattle.wt_rewrite.specs.declared.first.Operands.{Operands}
use Rattle.wt_rewrite.specs.declared.first.Operands.TheVariants.{Leaf, One, Two}

abbrev pub AreOperands : PlanTree → Operands → Type 0
AreOperands p Leaf = node_count p ≡ 1
AreOperands p (One q) = (node_count p ≡ 1 + node_count (plan_tree q.now)) × (at p 1 ≡ plan_tree q.now)
AreOperands p (Two q r) =
    (node_count p ≡ 1 + (node_count (plan_tree q.now) + node_count (plan_tree r.now))) × (at p 1 ≡ plan_tree q.now)
    × (at p (1 + node_count (plan_tree q.now)) ≡ plan_tree r.now)
