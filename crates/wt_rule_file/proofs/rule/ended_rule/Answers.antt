use Rattle.wt_rule_file.specs.Files.{not_ended}
use Rattle.wt_rule_file.proofs.rule.ended_rule.Goals as goal

pub returns-then-not-ended : goal.returns-then-not-ended
returns-then-not-ended g c = not_ended c.if-not-ended.true
