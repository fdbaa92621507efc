use Rattle.wt_plan.specs.Tree.{plan_tree}
use Rattle.wt_plan.specs.Measures as measures
use Rattle.wt_unique.proofs.Asking.{paired_right_is}
use Rattle.wt_unique.proofs.joining.paired_right.Goals as goal

pub returns : goal.returns
returns c =
    cc (c.in_ok-add_rights.ensures, c.in_ok-out.ensures, paired_right_is (measures.width (plan_tree c.args.left.now)) c.args.a.now c.args.b.now c.args.set.now)
