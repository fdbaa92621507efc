use Rattle.wt_form_rows.proofs.ChoiceRows.{null_more}
use Rattle.wt_form_rows.proofs.values.nulls_for.Goals as goal

pub loop-number-preserved : goal.loop-number-preserved
loop-number-preserved c = null_more c.args.numbers.now c.loop-number._number-index _ _ c.loop-number-test.true c.loop-number.invariant c.in_ok-push.ensures.ok
