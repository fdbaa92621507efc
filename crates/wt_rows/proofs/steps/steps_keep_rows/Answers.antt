use Rattle.std.proofs.Common.{true}
use Rattle.wt_rows.proofs.Composed.{step_one_bag, nested_keeps}
use Rattle.wt_rows.proofs.steps.steps_keep_rows.Goals as goal

pub returns-clause-top : goal.returns-clause-top
returns-clause-top c = λ p set I K is met under f g fits s. step_one_bag p set I is met K under f g fits s

pub returns-clause-inside : goal.returns-clause-inside
returns-clause-inside c = λ p set I K is met under h ts us fits s. nested_keeps p set I is met K under true h ts us fits s
