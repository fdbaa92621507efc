use Rattle.wt_rule_line.proofs.LineLaws.{not_refused}
use Rattle.wt_rule_line.proofs.line.a_line_with_a_rule_is_not_refused.Goals as goal

pub returns : goal.returns
returns c = not_refused
