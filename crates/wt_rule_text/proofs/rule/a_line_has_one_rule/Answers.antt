use Rattle.wt_rule_text.proofs.RuleForms.{one_rule}
use Rattle.wt_rule_text.proofs.rule.a_line_has_one_rule.Goals as goal

pub returns : goal.returns
returns c = one_rule
