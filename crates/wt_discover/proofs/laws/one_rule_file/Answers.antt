use Rattle.wt_discover.proofs.OneFile.{one_file}
use Rattle.wt_discover.proofs.laws.one_rule_file.Goals as goal

pub returns : goal.returns
returns c = one_file
