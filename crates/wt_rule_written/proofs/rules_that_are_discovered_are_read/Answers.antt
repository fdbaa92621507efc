use Rattle.wt_rule_written.proofs.Discovered.{discovered_read}
use Rattle.wt_rule_written.proofs.rules_that_are_discovered_are_read.Goals as goal

pub returns : goal.returns
returns c = discovered_read
