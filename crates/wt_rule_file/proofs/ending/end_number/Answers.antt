use Rattle.std.proofs.Common.{rules}
use Rattle.wt_rule_file.specs.Reading.{end_number}
use Rattle.wt_rule_file.proofs.ending.end_number.Goals as goal

pub returns-in_err-at : goal.returns-in_err-at
unfolding end_number
returns-in_err-at c = search rules

pub returns : goal.returns
unfolding end_number
returns c = search rules
