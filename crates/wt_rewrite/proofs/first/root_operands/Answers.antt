use Rattle.std.proofs.Common.{ap}
use Rattle.wt_plan.specs.Tree.{plan_tree}
use Rattle.wt_rewrite.proofs.NodeLaws.{moved_operands, inner_operands, left_operands, in_operands}
use Rattle.wt_rewrite.proofs.first.root_operands.Goals as goal

pub returns-in-InnerJoin : goal.returns-in-InnerJoin
returns-in-InnerJoin c = moved_operands _ _ _ _ _ _ (ap plan_tree c.in-InnerJoin.is) (ap plan_tree c.deref-in-InnerJoin.ensures) (ap plan_tree c.deref-in-InnerJoin-2.ensures)
    (inner_operands c.in-InnerJoin.field-0 c.in-InnerJoin.field-1 (plan_tree c.in-InnerJoin.p.value) (plan_tree c.in-InnerJoin.q.value))

pub returns-in-LeftJoin : goal.returns-in-LeftJoin
returns-in-LeftJoin c = moved_operands _ _ _ _ _ _ (ap plan_tree c.in-LeftJoin.is) (ap plan_tree c.deref-in-LeftJoin.ensures) (ap plan_tree c.deref-in-LeftJoin-2.ensures)
    (left_operands c.in-LeftJoin.field-0 c.in-LeftJoin.field-1 (plan_tree c.in-LeftJoin.p.value) (plan_tree c.in-LeftJoin.q.value))

pub returns-in-InSub : goal.returns-in-InSub
returns-in-InSub c = moved_operands _ _ _ _ _ _ (ap plan_tree c.in-InSub.is) (ap plan_tree c.deref-in-InSub.ensures) (ap plan_tree c.deref-in-InSub-2.ensures)
    (in_operands c.in-InSub.field-0 (plan_tree c.in-InSub.p.value) (plan_tree c.in-InSub.q.value))
