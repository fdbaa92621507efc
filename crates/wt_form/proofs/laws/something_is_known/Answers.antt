use Rattle.wt_form.proofs.Asked.{computed, computed_under}
use Rattle.wt_form.proofs.SetsGrow.{known_grows}
use Rattle.wt_form.proofs.laws.something_is_known.Goals as goal

pub returns-clause-known : goal.returns-clause-known
returns-clause-known c = λ p set. (computed p set, computed_under p set)

pub returns-clause-alike : goal.returns-clause-alike
returns-clause-alike c = λ p set K L k l. known_grows p set set (λ i h. h) K L k l
