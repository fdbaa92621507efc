use Rattle.wt_chains.proofs.Chained.{chain_rows}
use Rattle.wt_chains.proofs.laws.chains_keep_rows.Goals as goal

pub returns : goal.returns
returns c S schema rules lawful sound plan last trace regular chain base holds = chain_rows S rules schema lawful sound base holds regular chain
