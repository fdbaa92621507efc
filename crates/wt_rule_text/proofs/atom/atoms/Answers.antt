use Rattle.std.proofs.Common.{rules}
use Rattle.wt_rule_text.specs.Reading.{atoms}
use Rattle.wt_rule_text.proofs.atom.atoms.Goals as goal

pub returns-in-Some : goal.returns-in-Some
unfolding atoms
returns-in-Some c = search rules

pub returns : goal.returns
unfolding atoms
returns c = search rules
