use Rattle.wt_cores.proofs.Searching.{shared_bit}
use Rattle.wt_cores.proofs.sets.shared.Goals as goal

pub returns : goal.returns
returns c j = shared_bit c.args.a.0 c.args.b.0 j
