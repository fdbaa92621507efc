use Rattle.wt_rows_tests.proofs.tests.times.+conds.Given as goal

abbrev pub decreases-conds : goal.decreases-conds
decreases-conds l = l.left
