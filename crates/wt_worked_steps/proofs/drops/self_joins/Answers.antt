use Rattle.wt_worked_steps.proofs.DropRows.{self_join_goes, self_join_by_condition, other_list_stays, self_join_stays}
use Rattle.wt_worked_steps.proofs.drops.self_joins.Goals as goal

pub returns-clause-step : goal.returns-clause-step
returns-clause-step c = self_join_goes

pub returns-clause-by_condition : goal.returns-clause-by_condition
returns-clause-by_condition c = self_join_by_condition

pub returns-clause-other_list : goal.returns-clause-other_list
returns-clause-other_list c = other_list_stays

pub returns-clause-may_be_null : goal.returns-clause-may_be_null
returns-clause-may_be_null c = self_join_stays
