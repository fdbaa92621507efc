use Rattle.std.proofs.Common.{length}
use Rattle.wt_rule_line.proofs.atoms.+are_among.Given as goal

abbrev pub decreases-are_among : goal.decreases-are_among
decreases-are_among l = length l.atoms.now
