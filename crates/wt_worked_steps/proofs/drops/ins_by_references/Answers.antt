use Rattle.wt_worked_steps.proofs.DropRows.{in_goes_by_reference, in_stays_of_null, in_stays_without_reference, in_stays_of_some_rows}
use Rattle.wt_worked_steps.proofs.drops.ins_by_references.Goals as goal

pub returns-clause-step : goal.returns-clause-step
returns-clause-step c = in_goes_by_reference

pub returns-clause-may_be_null : goal.returns-clause-may_be_null
returns-clause-may_be_null c = in_stays_of_null

pub returns-clause-no_reference : goal.returns-clause-no_reference
returns-clause-no_reference c = in_stays_without_reference

pub returns-clause-filtered : goal.returns-clause-filtered
returns-clause-filtered c = in_stays_of_some_rows
