use Rattle.wt_rows_tests.proofs.tests.times.+ranges.Given as goal

abbrev pub decreases-ranges : goal.decreases-ranges
decreases-ranges l = l.left
