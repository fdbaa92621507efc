use Rattle.wt_rewriting.proofs.Beginning.{stopped_checked}
use Rattle.wt_rewriting.proofs.checking.check.Goals as goal

pub returns-in-Err-clause-begins : goal.returns-in-Err-clause-begins
returns-in-Err-clause-begins g c =
    let h = c.in-Err.ensures in
    λ short. (h.0, h.1, λ whole is. stopped_checked c.args.rules.now h.0 _ _ _ _ c.in-Err.stop h.2 whole is)
