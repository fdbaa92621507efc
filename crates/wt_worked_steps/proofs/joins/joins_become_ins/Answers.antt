use Rattle.wt_worked_steps.proofs.JoinRows.{join_to_in_by_unique, join_to_in_by_distinct, join_to_in_inside, join_of_many_rows_stays, join_stays_by_a_piece, join_stays_by_a_condition, join_stays_by_its_other_side}
use Rattle.wt_worked_steps.proofs.joins.joins_become_ins.Goals as goal

pub returns-clause-by_unique : goal.returns-clause-by_unique
returns-clause-by_unique c = join_to_in_by_unique

pub returns-clause-by_distinct : goal.returns-clause-by_distinct
returns-clause-by_distinct c = join_to_in_by_distinct

pub returns-clause-inside : goal.returns-clause-inside
returns-clause-inside c = join_to_in_inside

pub returns-clause-many_rows : goal.returns-clause-many_rows
returns-clause-many_rows c = join_of_many_rows_stays

pub returns-clause-in_pieces : goal.returns-clause-in_pieces
returns-clause-in_pieces c = join_stays_by_a_piece

pub returns-clause-in_conditions : goal.returns-clause-in_conditions
returns-clause-in_conditions c = join_stays_by_a_condition

pub returns-clause-in_the_join : goal.returns-clause-in_the_join
returns-clause-in_the_join c = join_stays_by_its_other_side
