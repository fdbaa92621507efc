use Rattle.std.proofs.Common.{◌∙◌, arith}
use Rattle.wt_plan.specs.Tree.{plan_tree}
use Rattle.wt_plan.specs.Measures as measures
use Rattle.wt_unique.proofs.Bounds.{whole_width}
use Rattle.wt_unique.proofs.sets.is_whole.Goals as goal

pub returns : goal.returns
returns c =
    c.has_all_below.ensures
    ∙ whole_width c.args.set.now c.args.width (measures.width (plan_tree c.args.plan.now)) (λ k. let f = c.type_inv.set k in omega arith) c.requires
