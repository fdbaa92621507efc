use Rattle.wt_rule_file.proofs.Scanning.{count_tells}
use Rattle.wt_rule_file.proofs.ending.stated_count.Goals as goal

pub returns : goal.returns
returns c = count_tells c.args.text.now c.end_number.result c.end_number.ensures
