use Rattle.wt_worked_steps.proofs.CongruentRows.{same_leaves, variables_in_any_order, distinct_rows_are_same, not_other_leaf, not_other_order, not_other_rows, not_other_list, not_other_whole, not_other_kind_of_range, no_variable_is_left}
use Rattle.wt_worked_steps.proofs.congruent.congruent_ranges.Goals as goal

pub returns-clause-same_leaves : goal.returns-clause-same_leaves
returns-clause-same_leaves c = same_leaves

pub returns-clause-any_order : goal.returns-clause-any_order
returns-clause-any_order c = variables_in_any_order

pub returns-clause-distinct : goal.returns-clause-distinct
returns-clause-distinct c = distinct_rows_are_same

pub returns-clause-other_leaf : goal.returns-clause-other_leaf
returns-clause-other_leaf c = not_other_leaf

pub returns-clause-other_order : goal.returns-clause-other_order
returns-clause-other_order c = not_other_order

pub returns-clause-other_rows : goal.returns-clause-other_rows
returns-clause-other_rows c = not_other_rows

pub returns-clause-other_list : goal.returns-clause-other_list
returns-clause-other_list c = not_other_list

pub returns-clause-other_whole : goal.returns-clause-other_whole
returns-clause-other_whole c = not_other_whole

pub returns-clause-other_kind : goal.returns-clause-other_kind
returns-clause-other_kind c = not_other_kind_of_range

pub returns-clause-fewer : goal.returns-clause-fewer
returns-clause-fewer c = no_variable_is_left
