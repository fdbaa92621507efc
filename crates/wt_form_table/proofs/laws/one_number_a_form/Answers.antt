use Rattle.wt_form_table.proofs.Numbers.{one_number}
use Rattle.wt_form_table.proofs.laws.one_number_a_form.Goals as goal

pub returns : goal.returns
returns c cells m n form h k = one_number cells m n form h k
