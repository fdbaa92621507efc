use Rattle.wt_clause.proofs.Commas.{whole_list, commas_are, free_are, list_wide, later_within}
use Rattle.wt_clause.proofs.laws.clauses_are_comma_lists.Goals as goal

pub returns : goal.returns
returns c = record { plan = whole_list; fault = commas_are; free = free_are; width = list_wide; within = later_within }
