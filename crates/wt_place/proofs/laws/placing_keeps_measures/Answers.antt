use Rattle.wt_place.proofs.Measured.{cost_kept, nodes_kept}
use Rattle.wt_place.proofs.laws.placing_keeps_measures.Goals as goal

pub returns-clause-cost : goal.returns-clause-cost
returns-clause-cost c p = cost_kept p

pub returns-clause-nodes : goal.returns-clause-nodes
returns-clause-nodes c p = nodes_kept p
