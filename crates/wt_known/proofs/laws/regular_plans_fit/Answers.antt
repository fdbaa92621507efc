use Rattle.wt_known.proofs.KnownFacts.{regular_fits}
use Rattle.wt_known.proofs.laws.regular_plans_fit.Goals as goal

pub returns : goal.returns
returns c = regular_fits
