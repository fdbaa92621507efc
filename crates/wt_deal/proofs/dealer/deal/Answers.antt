use Rattle.std.proofs.Common.{ap, sym}
use Rattle.wt_deal.specs.declared.rule.Hand.{Hand}
use Rattle.wt_deal.proofs.Deals.{pushes, begins}
use Rattle.wt_deal.proofs.dealer.deal.Goals as goal

pub push_as-requires-clause-pushes : goal.push_as-requires-clause-pushes
push_as-requires-clause-pushes c = pushes _ _ _ (ap (λ (v : Hand). v.boss) c.loop-n.invariant.0) (sym (ap (λ (v : Hand). v.pushed) c.loop-n.invariant.0))

pub fifo_as-requires : goal.fifo_as-requires
fifo_as-requires c = begins
