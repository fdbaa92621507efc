use Rattle.wt_chains.proofs.Chained.{chain_placed, chain_regular, chain_wide}
use Rattle.wt_chains.proofs.laws.chains_stay_regular.Goals as goal

pub returns-clause-regular : goal.returns-clause-regular
returns-clause-regular c S rules plan last trace regular chain = chain_regular S rules regular chain

pub returns-clause-wide : goal.returns-clause-wide
returns-clause-wide c S rules plan last trace chain = chain_wide S rules chain

pub returns-clause-placed : goal.returns-clause-placed
returns-clause-placed c S rules plan last trace is chain = chain_placed S rules is chain
