use Rattle.wt_rows.proofs.Composed.{provable_one_bag}
use Rattle.wt_rows.proofs.laws.provable_sides_have_one_bag.Goals as goal

pub returns : goal.returns
returns c = λ p set k I lawful is met h. provable_one_bag p lawful set I is met k h
