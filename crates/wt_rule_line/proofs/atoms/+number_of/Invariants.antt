use Rattle.std.proofs.Common.{length}
use Rattle.wt_rule_line.proofs.atoms.+number_of.Given as goal

abbrev pub decreases-number_of : goal.decreases-number_of
decreases-number_of l = length l.all.now
