use Rattle.wt_rule_text.specs.Trees.{rule_of}
use Rattle.wt_rule_line.proofs.LineLaws.{pair_gives}
use Rattle.wt_rule_line.proofs.line.judge.Goals as goal

pub returns-in-Err : goal.returns-in-Err
returns-in-Err c = pair_gives (rule_of c.args.parsed.now) c.in-Err.error c.in-Err.ensures
