use Rattle.wt_worked_steps.proofs.NestedRows.{twin_goes_inside, twin_stays_at_the_top, other_piece_stays}
use Rattle.wt_worked_steps.proofs.nested.twin_terms.Goals as goal

pub returns-clause-inside : goal.returns-clause-inside
returns-clause-inside c = twin_goes_inside

pub returns-clause-at_the_top : goal.returns-clause-at_the_top
returns-clause-at_the_top c = twin_stays_at_the_top

pub returns-clause-other_piece : goal.returns-clause-other_piece
returns-clause-other_piece c = other_piece_stays
