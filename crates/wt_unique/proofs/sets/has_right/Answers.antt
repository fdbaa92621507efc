use Rattle.std.proofs.Common.{◌∙◌, arith}
use Rattle.wt_plan.specs.Tree.{plan_tree}
use Rattle.wt_plan.specs.Measures as measures
use Rattle.wt_unique.proofs.Bounds.{in_right}
use Rattle.wt_unique.proofs.sets.has_right.Goals as goal

pub returns : goal.returns
returns c =
    c.is_in.ensures
    ∙ in_right c.args.set.now c.args.column c.args.width (measures.width (plan_tree c.args.left.now)) c.saturating_add.result (λ k. let f = c.type_inv.set k in omega arith)
    c.requires c.saturating_add.ensures
