use Rattle.wt_cores.proofs.Gaining.{has_at}
use Rattle.wt_cores.proofs.found.around.Goals as goal

pub returns-then-contains : goal.returns-then-contains
returns-then-contains c = (has_at c.args.refused.now c.loop-other.other-index (record { 0 = 0 }) c.loop-other-test.true, c.contains.ensures.0 c.if-contains.true)
