use Rattle.wt_lines.proofs.QueryLaws.{has_no_match}
use Rattle.wt_lines.proofs.laws.rewritten_queries_have_no_match.Goals as goal

pub returns : goal.returns
returns c = has_no_match
