use Rattle.wt_rule_file.proofs.Answers.{good_rules}
use Rattle.wt_rule_file.proofs.laws.rules_that_are_read_are_good.Goals as goal

pub returns : goal.returns
returns c = good_rules
