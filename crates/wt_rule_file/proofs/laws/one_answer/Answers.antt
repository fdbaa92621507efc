use Rattle.wt_rule_file.proofs.Answers.{one_answer}
use Rattle.wt_rule_file.proofs.laws.one_answer.Goals as goal

pub returns : goal.returns
returns c = one_answer
