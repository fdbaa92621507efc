use Rattle.wt_form_table.proofs.Numbers.{form_stays}
use Rattle.wt_form_table.proofs.laws.numbers_stay.Goals as goal

pub returns : goal.returns
returns c old new n form goes h = form_stays old new goes n form h
