use Rattle.wt_plan.specs.Tree.{plan_tree}
use Rattle.wt_plan.specs.Measures as measures
use Rattle.wt_unique.proofs.Asking.{paired_left_is}
use Rattle.wt_unique.proofs.joining.paired_left.Goals as goal

pub returns : goal.returns
returns c =
    cc (c.in_ok-add_lefts.ensures, c.in_ok-out.ensures, paired_left_is (measures.width (plan_tree c.args.left.now)) c.args.a.now c.args.b.now c.args.set.now)
