use Rattle.wt_rule_file.proofs.Scanning.{head_tells}
use Rattle.wt_rule_file.proofs.head.read_head.Goals as goal

pub returns : goal.returns
returns c = head_tells c.args.text.now c.stated_head.result c.stated_head.ensures
