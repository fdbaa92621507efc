use Rattle.std.proofs.Common.{rules}
use Rattle.wt_rule_text.specs.Reading.{atom}
use Rattle.wt_rule_text.proofs.atom.atom.Goals as goal

pub returns-in-Some : goal.returns-in-Some
unfolding atom
returns-in-Some c = search rules

pub returns : goal.returns
unfolding atom
returns c = search rules
