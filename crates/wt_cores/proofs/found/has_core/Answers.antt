use Rattle.std.proofs.Common.{get_or}
use Rattle.wt_cores.proofs.Gaining.{has_at}
use Rattle.wt_cores.proofs.found.has_core.Goals as goal

pub returns-then-contains : goal.returns-then-contains
returns-then-contains c told = (get_or c.args.cores.now c.loop-core.core-index (record { 0 = 0 }), has_at c.args.cores.now c.loop-core.core-index (record { 0 = 0 }) c.loop-core-test.true, c.contains.ensures.0 c.if-contains.true)
