use Rattle.wt_pair_order.proofs.Pairs.{pairs_apart}
use Rattle.wt_pair_order.proofs.no_pair_stands_twice.Goals as goal

pub returns : goal.returns
returns c = pairs_apart
