use Rattle.wt_worked_steps.proofs.JoinRows.{expression_is_written, nothing_is_written, never_the_other_way}
use Rattle.wt_worked_steps.proofs.joins.rewritten_expressions.Goals as goal

pub returns-clause-step : goal.returns-clause-step
returns-clause-step c = expression_is_written

pub returns-clause-nothing_to_write : goal.returns-clause-nothing_to_write
returns-clause-nothing_to_write c = nothing_is_written

pub returns-clause-the_other_way : goal.returns-clause-the_other_way
returns-clause-the_other_way c = never_the_other_way
