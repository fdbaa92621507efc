use Rattle.wt_form_table.proofs.Numbers.{one_form}
use Rattle.wt_form_table.proofs.laws.one_form_a_number.Goals as goal

pub returns : goal.returns
returns c cells n f g h k = one_form cells n f g h k
