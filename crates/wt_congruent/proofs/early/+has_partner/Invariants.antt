use Rattle.std.proofs.Common.{length}
use Rattle.wt_congruent.proofs.early.+has_partner.Given as goal

abbrev pub decreases-has_partner : goal.decreases-has_partner
decreases-has_partner l = length l.left.now
