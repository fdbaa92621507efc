use Rattle.wt_rows.proofs.Composed.{congruent_one_bag}
use Rattle.wt_rows.proofs.laws.congruent_forms_have_one_bag.Goals as goal

pub returns : goal.returns
returns c = λ p set I K f g is met under same. congruent_one_bag p set I is met K under f g same
