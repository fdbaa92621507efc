use Rattle.std.proofs.Common.{length}
use Rattle.wt_congruent.proofs.early.+are_partners.Given as goal

abbrev pub decreases-are_partners : goal.decreases-are_partners
decreases-are_partners l = length l.left.now
