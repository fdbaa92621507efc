use Rattle.wt_worked_steps.proofs.JoinRows.{terms_are_put_together, other_rows_stay, other_pieces_stay, two_ins_stay, other_values_stay}
use Rattle.wt_worked_steps.proofs.joins.split_terms.Goals as goal

pub returns-clause-step : goal.returns-clause-step
returns-clause-step c = terms_are_put_together

pub returns-clause-other_rows : goal.returns-clause-other_rows
returns-clause-other_rows c = other_rows_stay

pub returns-clause-other_pieces : goal.returns-clause-other_pieces
returns-clause-other_pieces c = other_pieces_stay

pub returns-clause-two_ins : goal.returns-clause-two_ins
returns-clause-two_ins c = two_ins_stay

pub returns-clause-other_values : goal.returns-clause-other_values
returns-clause-other_values c = other_values_stay
