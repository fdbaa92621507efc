use Rattle.wt_worked_steps.proofs.DropRows.{in_goes_by_join, in_stays_of_other_leaf, in_stays_of_other_list}
use Rattle.wt_worked_steps.proofs.drops.ins_by_joins.Goals as goal

pub returns-clause-step : goal.returns-clause-step
returns-clause-step c = in_goes_by_join

pub returns-clause-other_leaf : goal.returns-clause-other_leaf
returns-clause-other_leaf c = in_stays_of_other_leaf

pub returns-clause-other_list : goal.returns-clause-other_list
returns-clause-other_list c = in_stays_of_other_list
