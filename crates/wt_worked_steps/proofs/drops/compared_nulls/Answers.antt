use Rattle.wt_worked_steps.proofs.DropRows.{join_of_null, in_of_null, predicate_of_null_stays, not_in_of_null_is_no_comparison, not_in_of_null_goes, not_in_of_list_stays}
use Rattle.wt_worked_steps.proofs.drops.compared_nulls.Goals as goal

pub returns-clause-join : goal.returns-clause-join
returns-clause-join c = join_of_null

pub returns-clause-is_among : goal.returns-clause-is_among
returns-clause-is_among c = in_of_null

pub returns-clause-predicate : goal.returns-clause-predicate
returns-clause-predicate c = predicate_of_null_stays

pub returns-clause-not_among : goal.returns-clause-not_among
returns-clause-not_among c = not_in_of_null_is_no_comparison

pub returns-clause-dropped : goal.returns-clause-dropped
returns-clause-dropped c = not_in_of_null_goes

pub returns-clause-of_list : goal.returns-clause-of_list
returns-clause-of_list c = not_in_of_list_stays
