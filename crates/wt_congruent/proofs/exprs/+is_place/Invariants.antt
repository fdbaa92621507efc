use Rattle.wt_congruent.proofs.exprs.+is_place.Given as goal

abbrev pub decreases-is_place : goal.decreases-is_place
decreases-is_place l = l.v
