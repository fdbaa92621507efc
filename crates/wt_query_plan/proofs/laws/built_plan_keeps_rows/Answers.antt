use Rattle.wt_query_plan.proofs.InRange.{built_law}
use Rattle.wt_query_plan.proofs.laws.built_plan_keeps_rows.Goals as goal

pub returns : goal.returns
returns c S base fit q e = built_law base S fit q e
