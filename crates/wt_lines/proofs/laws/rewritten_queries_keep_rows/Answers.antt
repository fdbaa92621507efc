use Rattle.wt_lines.proofs.QueryLaws.{keeps_rows}
use Rattle.wt_lines.proofs.laws.rewritten_queries_keep_rows.Goals as goal

pub returns : goal.returns
returns c = keeps_rows
