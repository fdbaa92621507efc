use Rattle.wt_chains.proofs.Chained.{chain_one}
use Rattle.wt_chains.proofs.laws.chains_are_one.Goals as goal

pub returns : goal.returns
returns c S schema rules lawful plan last other trace way regular a b = chain_one S rules schema lawful regular a b
