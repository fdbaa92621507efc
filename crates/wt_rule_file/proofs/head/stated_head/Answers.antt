use Rattle.std.proofs.Common.{rules}
use Rattle.wt_rule_file.specs.Reading.{stated_head}
use Rattle.wt_rule_file.proofs.head.stated_head.Goals as goal

pub returns-in_err-steps : goal.returns-in_err-steps
unfolding stated_head
returns-in_err-steps c = search rules

pub returns-in-Some : goal.returns-in-Some
unfolding stated_head
returns-in-Some c = search rules

pub returns-in_err-at : goal.returns-in_err-at
unfolding stated_head
returns-in_err-at c = search rules

pub returns-in_err-steps-2 : goal.returns-in_err-steps-2
unfolding stated_head
returns-in_err-steps-2 c = search rules

pub returns : goal.returns
unfolding stated_head
returns c = search rules
