use Rattle.wt_query_bounds.proofs.Fitting.{conditions_there}
use Rattle.wt_query_bounds.proofs.laws.built_plans_fit.Goals as goal

pub returns : goal.returns
returns c S q e = conditions_there S q e
