use Rattle.wt_lines.proofs.QueryLaws.{is_one}
use Rattle.wt_lines.proofs.laws.rewritten_queries_are_one.Goals as goal

pub returns : goal.returns
returns c = is_one
