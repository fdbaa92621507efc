use Rattle.std.proofs.Common.{arith}
use Rattle.wt_deal.proofs.Deals.{takes, finds}
use Rattle.wt_deal.proofs.dealer.Dealer.take.Goals as goal

pub pop_as-requires-clause-fifo : goal.pop_as-requires-clause-fifo
pop_as-requires-clause-fifo c = λ _. takes _ _ (omega (arith, c.self.invariant.1, c.self.invariant.2))

pub pop_as-requires-clause-empty : goal.pop_as-requires-clause-empty
pop_as-requires-clause-empty c = finds _ _
