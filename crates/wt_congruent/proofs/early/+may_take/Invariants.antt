use Rattle.wt_congruent.proofs.early.+may_take.Given as goal

abbrev pub decreases-may_take : goal.decreases-may_take
decreases-may_take l = l.v
