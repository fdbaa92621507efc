use Rattle.wt_form_rows.proofs.ChoiceRows.{nulls_go_on}
use Rattle.wt_form_rows.proofs.values.nulls.Goals as goal

pub loop-number-preserved : goal.loop-number-preserved
loop-number-preserved c = nulls_go_on _ _ _ c.loop-number._number c.args.width c.loop-number-test.true c.in_ok-push.ensures.ok c.loop-number.invariant
