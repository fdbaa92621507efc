use Rattle.wt_matching.proofs.Final.{is_unique}
use Rattle.wt_matching.proofs.laws.matches_are_unique.Goals as goal

pub returns : goal.returns
returns c = is_unique
