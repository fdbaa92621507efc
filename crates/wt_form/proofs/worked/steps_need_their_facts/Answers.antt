use Rattle.wt_form.proofs.WorkedRows.{no_self_join, no_reference, no_join_to_in, no_opening}
use Rattle.wt_form.proofs.worked.steps_need_their_facts.Goals as goal

pub returns-clause-self_join : goal.returns-clause-self_join
returns-clause-self_join c = λ ps us s. no_self_join ps us s

pub returns-clause-reference : goal.returns-clause-reference
returns-clause-reference c = λ s. no_reference s

pub returns-clause-join_to_in : goal.returns-clause-join_to_in
returns-clause-join_to_in c = λ h ts j. no_join_to_in h ts j

pub returns-clause-opening : goal.returns-clause-opening
returns-clause-opening c = λ d. no_opening d
