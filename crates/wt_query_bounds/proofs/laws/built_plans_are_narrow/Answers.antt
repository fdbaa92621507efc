use Rattle.std.proofs.Common.{[]}
use Rattle.wt_query_bounds.proofs.Narrowing.{query_narrow}
use Rattle.wt_query_bounds.proofs.laws.built_plans_are_narrow.Goals as goal

pub returns : goal.returns
returns c S lawful q small e = query_narrow S lawful q [] small e
