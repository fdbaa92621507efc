use Rattle.wt_form.specs.Steps.{by_repeated, by_self_join, by_in_true, by_join_to_in, by_merged, by_not_in_false, by_null_compared, by_not_in_of_null, by_opened, by_rewritten, in_first, in_second, twin}
use Rattle.wt_rows.proofs.Composed.{row_keeps, two_keep}
use Rattle.wt_rows.proofs.steps.each_step_keeps_rows.Goals as goal

pub returns-clause-repeated : goal.returns-clause-repeated
returns-clause-repeated c = λ p set I K is met under k rs cs ps us fr fc fp s. row_keeps p set I is met K under k rs cs ps us fr fc fp (by_repeated s)

pub returns-clause-self_join : goal.returns-clause-self_join
returns-clause-self_join c = λ p set I K is met under k rs cs ps us fr fc fp s. row_keeps p set I is met K under k rs cs ps us fr fc fp (by_self_join s)

pub returns-clause-in_true : goal.returns-clause-in_true
returns-clause-in_true c = λ p set I K is met under k rs cs ps us fr fc fp s. row_keeps p set I is met K under k rs cs ps us fr fc fp (by_in_true s)

pub returns-clause-join_to_in : goal.returns-clause-join_to_in
returns-clause-join_to_in c = λ p set I K is met under k rs cs ps us fr fc fp s. row_keeps p set I is met K under k rs cs ps us fr fc fp (by_join_to_in s)

pub returns-clause-merged : goal.returns-clause-merged
returns-clause-merged c = λ p set I K is met under k rs cs ps us fr fc fp s. row_keeps p set I is met K under k rs cs ps us fr fc fp (by_merged s)

pub returns-clause-not_in_false : goal.returns-clause-not_in_false
returns-clause-not_in_false c = λ p set I K is met under k rs cs ps us fr fc fp s. row_keeps p set I is met K under k rs cs ps us fr fc fp (by_not_in_false s)

pub returns-clause-null_compared : goal.returns-clause-null_compared
returns-clause-null_compared c = λ p set I K is met under k rs cs ps us fr fc fp s. row_keeps p set I is met K under k rs cs ps us fr fc fp (by_null_compared s)

pub returns-clause-not_in_of_null : goal.returns-clause-not_in_of_null
returns-clause-not_in_of_null c = λ p set I K is met under k rs cs ps us fr fc fp s. row_keeps p set I is met K under k rs cs ps us fr fc fp (by_not_in_of_null s)

pub returns-clause-opened : goal.returns-clause-opened
returns-clause-opened c = λ p set I K is met under k rs cs ps us fr fc fp s. row_keeps p set I is met K under k rs cs ps us fr fc fp (by_opened s)

pub returns-clause-rewritten : goal.returns-clause-rewritten
returns-clause-rewritten c = λ p set I K is met under k rs cs ps us fr fc fp s. row_keeps p set I is met K under k rs cs ps us fr fc fp (by_rewritten s)

pub returns-clause-split_by_in : goal.returns-clause-split_by_in
returns-clause-split_by_in c = λ p set I K is met under k rs cs ps rs' cs' ps' s. two_keep p set I is met K under k rs cs ps rs' cs' ps' _ (in_first s)

pub returns-clause-split_by_in_later : goal.returns-clause-split_by_in_later
returns-clause-split_by_in_later c = λ p set I K is met under k rs cs ps rs' cs' ps' s. two_keep p set I is met K under k rs cs ps rs' cs' ps' _ (in_second s)

pub returns-clause-twins : goal.returns-clause-twins
returns-clause-twins c = λ p set I K is met under k rs cs ps rs' cs' ps' s. two_keep p set I is met K under k rs cs ps rs' cs' ps' _ (twin s)
