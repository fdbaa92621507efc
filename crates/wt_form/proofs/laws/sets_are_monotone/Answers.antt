use Rattle.wt_form.proofs.SetsGrow.{known_grows, provable_more}
use Rattle.wt_form.proofs.SameGrows.{terms_grow}
use Rattle.wt_form.proofs.StepsGrow.{step_grows}
use Rattle.wt_form.proofs.laws.sets_are_monotone.Goals as goal

pub returns-clause-known : goal.returns-clause-known
returns-clause-known c = λ p s t K L into k l. known_grows p s t into K L k l

pub returns-clause-steps : goal.returns-clause-steps
returns-clause-steps c = λ K L f g more step. step_grows K L more f g step

pub returns-clause-congruent : goal.returns-clause-congruent
returns-clause-congruent c = λ K L f g more same. terms_grow K L more.rel more.attr more.pred f.terms g.terms same

pub returns-clause-provable : goal.returns-clause-provable
returns-clause-provable c = λ p s t steps into h. provable_more p s t into steps h
