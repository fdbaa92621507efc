use Rattle.wt_template.proofs.+template_of.Given as goal

abbrev pub decreases-template_of : goal.decreases-template_of
decreases-template_of l = l.size
