use Rattle.wt_rule_line.proofs.LineLaws.{one_rule_stated}
use Rattle.wt_rule_line.proofs.line.a_line_states_one_rule.Goals as goal

pub returns : goal.returns
returns c = one_rule_stated
