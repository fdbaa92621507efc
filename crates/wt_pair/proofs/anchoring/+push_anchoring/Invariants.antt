use Rattle.wt_pair.proofs.anchoring.+push_anchoring.Given as goal

abbrev pub decreases-push_anchoring : goal.decreases-push_anchoring
decreases-push_anchoring l = l.lists
