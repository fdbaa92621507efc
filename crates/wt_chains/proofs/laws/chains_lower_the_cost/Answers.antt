use Rattle.wt_chains.proofs.Chained.{chain_cost}
use Rattle.wt_chains.proofs.laws.chains_lower_the_cost.Goals as goal

pub returns : goal.returns
returns c S schema rules lawful plan last trace regular chain = chain_cost S rules schema lawful regular chain
