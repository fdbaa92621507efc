use Rattle.wt_worked_steps.proofs.DropRows.{not_in_false_by_in, not_in_false_by_reference, not_in_false_by_join, not_in_of_other_rows, not_in_of_null_stays}
use Rattle.wt_worked_steps.proofs.drops.false_not_ins.Goals as goal

pub returns-clause-by_in : goal.returns-clause-by_in
returns-clause-by_in c = not_in_false_by_in

pub returns-clause-by_reference : goal.returns-clause-by_reference
returns-clause-by_reference c = not_in_false_by_reference

pub returns-clause-by_join : goal.returns-clause-by_join
returns-clause-by_join c = not_in_false_by_join

pub returns-clause-other_rows : goal.returns-clause-other_rows
returns-clause-other_rows c = not_in_of_other_rows

pub returns-clause-may_be_null : goal.returns-clause-may_be_null
returns-clause-may_be_null c = not_in_of_null_stays
