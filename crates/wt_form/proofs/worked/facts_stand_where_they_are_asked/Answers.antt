use Rattle.wt_form.proofs.WorkedRows.{unique_of_one_leaf, within_one_way}
use Rattle.wt_form.proofs.worked.facts_stand_where_they_are_asked.Goals as goal

pub returns-clause-unique : goal.returns-clause-unique
returns-clause-unique c = λ set is h. unique_of_one_leaf set is h

pub returns-clause-within : goal.returns-clause-within
returns-clause-within c = λ set is h. within_one_way set is h
