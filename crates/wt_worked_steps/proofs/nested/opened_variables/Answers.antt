use Rattle.wt_worked_steps.proofs.NestedRows.{opened_by_list, opened_by_whole_row, opened_by_join, opened_inside, not_unique_stays, unique_of_null_stays, two_terms_stay, list_that_is_not_held_stays}
use Rattle.wt_worked_steps.proofs.nested.opened_variables.Goals as goal

pub returns-clause-by_list : goal.returns-clause-by_list
returns-clause-by_list c = opened_by_list

pub returns-clause-by_whole_row : goal.returns-clause-by_whole_row
returns-clause-by_whole_row c = opened_by_whole_row

pub returns-clause-by_join : goal.returns-clause-by_join
returns-clause-by_join c = opened_by_join

pub returns-clause-inside : goal.returns-clause-inside
returns-clause-inside c = opened_inside

pub returns-clause-not_unique : goal.returns-clause-not_unique
returns-clause-not_unique c = not_unique_stays

pub returns-clause-may_be_null : goal.returns-clause-may_be_null
returns-clause-may_be_null c = unique_of_null_stays

pub returns-clause-two_terms : goal.returns-clause-two_terms
returns-clause-two_terms c = two_terms_stay

pub returns-clause-not_held : goal.returns-clause-not_held
returns-clause-not_held c = list_that_is_not_held_stays
