use Rattle.std.proofs.Common.{rules}
use Rattle.wt_rule_text.specs.Reading.{rule}
use Rattle.wt_rule_text.proofs.rule.read_rule.Goals as goal

pub returns-in_err-source : goal.returns-in_err-source
unfolding rule
returns-in_err-source c = search rules

pub returns-in_err-atoms : goal.returns-in_err-atoms
unfolding rule
returns-in_err-atoms c = search rules

pub returns-in_err-weights : goal.returns-in_err-weights
unfolding rule
returns-in_err-weights c = search rules

pub returns : goal.returns
unfolding rule
returns c = search rules
