use Rattle.wt_worked_steps.proofs.CongruentRows.{same_lists, same_nulls, not_piece_of_other_list, not_pieces_in_other_order, not_whole_and_list, not_other_part, no_piece_is_left, not_other_whole_nulls, not_null_and_list}
use Rattle.wt_worked_steps.proofs.congruent.congruent_pieces.Goals as goal

pub returns-clause-same_lists : goal.returns-clause-same_lists
returns-clause-same_lists c = same_lists

pub returns-clause-nulls : goal.returns-clause-nulls
returns-clause-nulls c = same_nulls

pub returns-clause-other_list : goal.returns-clause-other_list
returns-clause-other_list c = not_piece_of_other_list

pub returns-clause-other_order : goal.returns-clause-other_order
returns-clause-other_order c = not_pieces_in_other_order

pub returns-clause-whole : goal.returns-clause-whole
returns-clause-whole c = not_whole_and_list

pub returns-clause-other_part : goal.returns-clause-other_part
returns-clause-other_part c = not_other_part

pub returns-clause-fewer : goal.returns-clause-fewer
returns-clause-fewer c = no_piece_is_left

pub returns-clause-whole_nulls : goal.returns-clause-whole_nulls
returns-clause-whole_nulls c = not_other_whole_nulls

pub returns-clause-null_or_list : goal.returns-clause-null_or_list
returns-clause-null_or_list c = not_null_and_list
