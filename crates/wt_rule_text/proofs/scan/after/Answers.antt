use Rattle.std.proofs.Common.{rules}
use Rattle.wt_rule_text.specs.Reading.{after}
use Rattle.wt_rule_text.proofs.scan.after.Goals as goal

pub returns-then-starts_with : goal.returns-then-starts_with
unfolding after
returns-then-starts_with c = search rules

pub returns-else-starts_with : goal.returns-else-starts_with
unfolding after
returns-else-starts_with c = search rules
