use Rattle.wt_query_bounds.proofs.Bounded.{from_few}
use Rattle.wt_query_bounds.proofs.laws.clauses_have_few_columns.Goals as goal

pub returns : goal.returns
returns c S lawful f outer before e = from_few S lawful f outer before e
