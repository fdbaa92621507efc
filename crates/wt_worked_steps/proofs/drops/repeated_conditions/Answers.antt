use Rattle.wt_worked_steps.proofs.DropRows.{repeated_goes, other_predicate_stays}
use Rattle.wt_worked_steps.proofs.drops.repeated_conditions.Goals as goal

pub returns-clause-step : goal.returns-clause-step
returns-clause-step c = repeated_goes

pub returns-clause-other_predicate : goal.returns-clause-other_predicate
returns-clause-other_predicate c = other_predicate_stays
