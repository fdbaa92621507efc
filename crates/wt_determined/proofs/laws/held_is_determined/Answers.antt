use Rattle.wt_determined.proofs.HeldLaws.{held_determined, whole_row_held, columns_held}
use Rattle.wt_determined.proofs.laws.held_is_determined.Goals as goal

pub returns-clause-held : goal.returns-clause-held
returns-clause-held c = λ facts rs cs ps u range at h. held_determined facts rs cs ps u range at h

pub returns-clause-whole_row : goal.returns-clause-whole_row
returns-clause-whole_row c = λ facts rs cs ps u r k unique whole never. whole_row_held facts rs cs ps u r k unique whole never

pub returns-clause-columns : goal.returns-clause-columns
returns-clause-columns c = λ facts rs cs ps u r k d unique held within never. columns_held facts rs cs ps u r k d unique held within never
