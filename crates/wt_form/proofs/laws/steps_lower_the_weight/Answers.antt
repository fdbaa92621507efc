use Rattle.std.proofs.Common.{false}
use Rattle.wt_form.proofs.SmallSides.{source_lowers, dest_lowers}
use Rattle.wt_form.proofs.Weighing.{step_lowers}
use Rattle.wt_form.proofs.StaySmall.{terms_small}
use Rattle.wt_form.proofs.laws.steps_lower_the_weight.Goals as goal

pub returns-clause-source : goal.returns-clause-source
returns-clause-source c = λ p K k f g lawful chain step. source_lowers p lawful K k f g chain step

pub returns-clause-dest : goal.returns-clause-dest
returns-clause-dest c = λ p K k f g lawful chain step. dest_lowers p lawful K k f g chain step

pub returns-clause-small : goal.returns-clause-small
returns-clause-small c = λ K f g small step. (step_lowers K f g small step, terms_small K false f.terms g.terms small step.1)
