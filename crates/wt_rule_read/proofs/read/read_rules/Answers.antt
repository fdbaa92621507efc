use Rattle.wt_rule_read.proofs.Good.{told, told_lawful, told_sound, told_few}
use Rattle.wt_rule_read.proofs.read.read_rules.Goals as goal

pub returns-clause-told : goal.returns-clause-told
returns-clause-told c = told c.args.bytes.now c.read_rules.result c.read_rules.ensures.answer

pub returns-clause-lawful : goal.returns-clause-lawful
returns-clause-lawful c = told_lawful c.args.bytes.now c.read_rules.result c.read_rules.ensures.answer

pub returns-clause-sound : goal.returns-clause-sound
returns-clause-sound c = told_sound c.args.bytes.now c.read_rules.result c.read_rules.ensures.answer

pub returns-clause-few : goal.returns-clause-few
returns-clause-few c = told_few c.args.bytes.now c.read_rules.result c.read_rules.ensures.answer
