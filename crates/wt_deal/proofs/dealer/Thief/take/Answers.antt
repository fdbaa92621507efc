use Rattle.std.proofs.Common.{arith}
use Rattle.wt_deal.proofs.Deals.{takes}
use Rattle.wt_deal.proofs.dealer.Thief.take.Goals as goal

pub steal_as-requires-clause-takes : goal.steal_as-requires-clause-takes
steal_as-requires-clause-takes g c = takes _ _ (omega (arith, c.loop.invariant.away, c.loop.invariant.boss))
