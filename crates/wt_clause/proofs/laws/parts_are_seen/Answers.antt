use Rattle.wt_clause.proofs.Walks.{seen_clause, seen_inside, seen_narrow, seen_even}
use Rattle.wt_clause.proofs.laws.parts_are_seen.Goals as goal

pub returns : goal.returns
returns c = record { seen = seen_clause; columns = seen_inside; narrow = seen_narrow; even = seen_even }
