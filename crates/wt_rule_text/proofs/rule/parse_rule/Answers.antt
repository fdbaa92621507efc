use Rattle.wt_rule_text.proofs.RuleForms.{line_read, line_refused}
use Rattle.wt_rule_text.proofs.rule.parse_rule.Goals as goal

pub returns-clause-line : goal.returns-clause-line
returns-clause-line c = line_read c.args.version c.args.line.now c.read_rule.result c.read_rule.ensures

pub returns-clause-syntax : goal.returns-clause-syntax
returns-clause-syntax c = line_refused c.args.version c.args.line.now c.read_rule.result c.read_rule.ensures
