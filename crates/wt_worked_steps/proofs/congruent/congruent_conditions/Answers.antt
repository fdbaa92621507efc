use Rattle.wt_worked_steps.proofs.CongruentRows.{same_predicates, joins_either_way, same_ins, same_not_ins, conditions_in_any_order, not_other_predicate, not_predicate_of_other_list, not_other_join, not_in_other_rows, not_other_values, not_other_rows_outside, not_other_kind_of_condition, no_condition_is_left}
use Rattle.wt_worked_steps.proofs.congruent.congruent_conditions.Goals as goal

pub returns-clause-same_predicates : goal.returns-clause-same_predicates
returns-clause-same_predicates c = same_predicates

pub returns-clause-either_way : goal.returns-clause-either_way
returns-clause-either_way c = joins_either_way

pub returns-clause-is_among : goal.returns-clause-is_among
returns-clause-is_among c = same_ins

pub returns-clause-not_among : goal.returns-clause-not_among
returns-clause-not_among c = same_not_ins

pub returns-clause-any_order : goal.returns-clause-any_order
returns-clause-any_order c = conditions_in_any_order

pub returns-clause-other_predicate : goal.returns-clause-other_predicate
returns-clause-other_predicate c = not_other_predicate

pub returns-clause-predicate_of_other_list : goal.returns-clause-predicate_of_other_list
returns-clause-predicate_of_other_list c = not_predicate_of_other_list

pub returns-clause-other_join : goal.returns-clause-other_join
returns-clause-other_join c = not_other_join

pub returns-clause-other_rows : goal.returns-clause-other_rows
returns-clause-other_rows c = not_in_other_rows

pub returns-clause-other_values : goal.returns-clause-other_values
returns-clause-other_values c = not_other_values

pub returns-clause-other_rows_not : goal.returns-clause-other_rows_not
returns-clause-other_rows_not c = not_other_rows_outside

pub returns-clause-other_kind : goal.returns-clause-other_kind
returns-clause-other_kind c = not_other_kind_of_condition

pub returns-clause-fewer : goal.returns-clause-fewer
returns-clause-fewer c = no_condition_is_left
