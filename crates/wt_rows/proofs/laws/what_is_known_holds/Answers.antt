use Rattle.wt_rows.proofs.Holds.{known_holds}
use Rattle.wt_rows.proofs.laws.what_is_known_holds.Goals as goal

pub returns : goal.returns
returns c = λ p set I K met under. known_holds p set I met K under
