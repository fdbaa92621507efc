use Rattle.wt_determined.proofs.ClosingLaws.{one_more}
use Rattle.wt_determined.proofs.closing.variables.Goals as goal

pub loop-v-preserved : goal.loop-v-preserved
loop-v-preserved c = one_more c.loop-v.v c.loop-v.out.items _ c.in_ok-push.ensures.items c.loop-v.invariant
