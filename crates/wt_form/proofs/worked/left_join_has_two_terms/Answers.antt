use Rattle.std.proofs.Common.{refl}
use Rattle.wt_form.proofs.worked.left_join_has_two_terms.Goals as goal

pub returns : goal.returns
returns c = refl
