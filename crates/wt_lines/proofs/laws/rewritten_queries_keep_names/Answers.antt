use Rattle.wt_lines.proofs.QueryLaws.{keeps_names}
use Rattle.wt_lines.proofs.laws.rewritten_queries_keep_names.Goals as goal

pub returns : goal.returns
returns c = keeps_names
