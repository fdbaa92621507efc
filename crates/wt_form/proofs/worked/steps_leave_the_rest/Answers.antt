use Rattle.wt_form.proofs.WorkedRows.{merged_keeps_joins, rewritten_keeps_lists}
use Rattle.wt_form.proofs.worked.steps_leave_the_rest.Goals as goal

pub returns-clause-merged : goal.returns-clause-merged
returns-clause-merged c = merged_keeps_joins

pub returns-clause-rewritten : goal.returns-clause-rewritten
returns-clause-rewritten c = rewritten_keeps_lists
