use Rattle.std.proofs.Common.{◌≡◌, ◌≤◌}
use Rattle.std.specs.List.{All}
use Rattle.wt_plan.specs.declared.plan.Plan.{size-Plan}
use Rattle.wt_plan.specs.Tree.{plan_tree}
use Rattle.wt_query_of.specs.Descents.{AreDown, bottom}
use Rattle.wt_query_of.proofs.descent.descend.Given as goal

abbrev pub invariant-operands : goal.invariant-operands
invariant-operands l = record {
  down : AreDown (plan_tree l.fn.plan) l.operators.items;
  bottom : plan_tree l.item ≡ bottom (plan_tree l.fn.plan) l.operators.items;
  within : All (λ s. size-Plan s.now ≤ size-Plan l.fn.plan) l.operators.items;
  smaller : size-Plan l.item ≤ size-Plan l.fn.plan;
}

abbrev pub decreases-operands : goal.decreases-operands
decreases-operands l = size-Plan l.item
