use Rattle.wt_instance.proofs.Sides.{columns_go_on}
use Rattle.wt_instance.proofs.evaluate.push_leaf_columns.Goals as goal

pub loop-number-preserved : goal.loop-number-preserved
loop-number-preserved c = columns_go_on _ _ _ c.args.leaf c.loop-number.number c.args.width c.loop-number-test.true c.in_ok-push.ensures.ok c.loop-number.invariant
