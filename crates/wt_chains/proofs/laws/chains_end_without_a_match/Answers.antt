use Rattle.wt_chains.proofs.Chained.{chain_ends}
use Rattle.wt_chains.proofs.laws.chains_end_without_a_match.Goals as goal

pub returns : goal.returns
returns c S rules plan last trace chain = chain_ends S rules chain
