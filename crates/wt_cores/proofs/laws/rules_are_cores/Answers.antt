use Rattle.wt_cores.proofs.CoreLaws.{rules_are_cores}
use Rattle.wt_cores.proofs.laws.rules_are_cores.Goals as goal

pub returns : goal.returns
returns c p k depth s few = rules_are_cores p k few depth s
