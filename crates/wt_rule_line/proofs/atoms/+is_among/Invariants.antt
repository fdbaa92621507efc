use Rattle.std.proofs.Common.{length}
use Rattle.wt_rule_line.proofs.atoms.+is_among.Given as goal

abbrev pub decreases-is_among : goal.decreases-is_among
decreases-is_among l = length l.all.now
