use Rattle.wt_rows_tests.proofs.tests.times.+terms.Given as goal

abbrev pub decreases-terms : goal.decreases-terms
decreases-terms l = l.left
