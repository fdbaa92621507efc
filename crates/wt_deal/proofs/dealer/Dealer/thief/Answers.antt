use Rattle.wt_deal.proofs.Deals.{forks}
use Rattle.wt_deal.proofs.dealer.Dealer.thief.Goals as goal

pub another-pass-requires : goal.another-pass-requires
another-pass-requires c = forks _ _ c.self.invariant.1
