use Rattle.wt_rule_line.proofs.LineLaws.{one_fault}
use Rattle.wt_rule_line.proofs.line.a_line_has_one_fault.Goals as goal

pub returns : goal.returns
returns c = one_fault
