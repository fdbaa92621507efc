use Rattle.wt_rule_file.proofs.Scanning.{end_tells}
use Rattle.wt_rule_file.proofs.ending.is_end.Goals as goal

pub returns : goal.returns
returns c = end_tells c.args.text.now c.after.result c.is_some.result c.after.ensures c.is_some.ensures
