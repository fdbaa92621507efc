use Rattle.wt_search.proofs.search.Ready.+shrink.Given as goal

abbrev pub decreases-shrink : goal.decreases-shrink
decreases-shrink l = l.below
