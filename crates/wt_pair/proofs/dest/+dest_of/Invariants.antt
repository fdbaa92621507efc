use Rattle.wt_pair.proofs.dest.+dest_of.Given as goal

abbrev pub decreases-dest_of : goal.decreases-dest_of
decreases-dest_of l = l.size
