use Rattle.wt_matching.proofs.Final.{keeps_rows}
use Rattle.wt_matching.proofs.laws.matches_keep_rows.Goals as goal

pub returns : goal.returns
returns c = keeps_rows
