use Rattle.std.proofs.Common.{refl}
use Rattle.wt_rule_file.proofs.Giving.{followed}
use Rattle.wt_rule_file.proofs.read.has_more.Goals as goal

pub returns : goal.returns
returns c = followed c.args.bytes.now c.args.at _ refl
