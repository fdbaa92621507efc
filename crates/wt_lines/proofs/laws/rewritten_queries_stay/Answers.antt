use Rattle.wt_lines.proofs.QueryLaws.{stays}
use Rattle.wt_lines.proofs.laws.rewritten_queries_stay.Goals as goal

pub returns : goal.returns
returns c = stays
