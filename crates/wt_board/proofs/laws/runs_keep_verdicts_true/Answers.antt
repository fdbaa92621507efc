use Rattle.wt_board.proofs.Runs.{kept_always}
use Rattle.wt_board.proofs.laws.runs_keep_verdicts_true.Goals as goal

pub returns : goal.returns
returns c = record { log = λ lot events run. (kept_always lot events run).log; once = λ lot events run p s. (kept_always lot events run).once p s }
