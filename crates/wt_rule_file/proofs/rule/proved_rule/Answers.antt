use Rattle.wt_rule_file.proofs.Giving.{unread, unproved_gives}
use Rattle.wt_rule_file.proofs.rule.proved_rule.Goals as goal

pub returns-in-Err : goal.returns-in-Err
returns-in-Err g c = unread c.args.head.version c.args.head.steps c.args.text.now c.in-Err.error c.in-Err.ensures

pub returns-in-Some : goal.returns-in-Some
returns-in-Some g c = unproved_gives c.args.head.version c.args.head.steps c.args.text.now c.in-Ok.rule c.in-Some.error c.in-Ok.ensures c.in-Some.ensures
