use Rattle.wt_rule_read.proofs.Good.{rules_hold}
use Rattle.wt_rule_read.proofs.read.rules_that_are_read_hold.Goals as goal

pub returns : goal.returns
returns c = rules_hold
