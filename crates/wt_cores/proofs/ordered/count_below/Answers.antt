use Rattle.wt_cores.proofs.Orders.{ascending_after}
use Rattle.wt_cores.proofs.ordered.count_below.Goals as goal

pub returns-then-other-set-clause-after : goal.returns-then-other-set-clause-after
returns-then-other-set-clause-after c = ascending_after c.args.set c.args.sets.now c.loop-at.at (record { 0 = 0 }) c.loop-at-test.true c.if-other-set.true c.requires
