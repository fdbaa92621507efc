use Rattle.wt_worked_steps.proofs.JoinRows.{variables_merge, not_unique_stays, other_leaf_stays, joined_on_two_lists_stay, variables_merge_by_expression}
use Rattle.wt_worked_steps.proofs.joins.merged_variables.Goals as goal

pub returns-clause-step : goal.returns-clause-step
returns-clause-step c = variables_merge

pub returns-clause-not_unique : goal.returns-clause-not_unique
returns-clause-not_unique c = not_unique_stays

pub returns-clause-other_leaf : goal.returns-clause-other_leaf
returns-clause-other_leaf c = other_leaf_stays

pub returns-clause-other_list : goal.returns-clause-other_list
returns-clause-other_list c = joined_on_two_lists_stay

pub returns-clause-by_expression : goal.returns-clause-by_expression
returns-clause-by_expression c = variables_merge_by_expression
