use Rattle.wt_stay.proofs.Exist.{step_exists}
use Rattle.wt_stay.proofs.NoGreater.{step_no_greater}
use Rattle.wt_stay.proofs.laws.steps_stay.Goals as goal

pub returns-clause-exist : goal.returns-clause-exist
returns-clause-exist c = λ K f g h step. step_exists K f g h step

pub returns-clause-no_greater : goal.returns-clause-no_greater
returns-clause-no_greater c = λ K f g step. step_no_greater K f g step
