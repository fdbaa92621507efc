use Rattle.wt_matching.proofs.Final.{lowers_cost}
use Rattle.wt_matching.proofs.laws.matches_lower_the_cost.Goals as goal

pub returns : goal.returns
returns c = lowers_cost
