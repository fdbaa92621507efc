use Rattle.wt_rows.proofs.Composed.{source_translated, dest_translated}
use Rattle.wt_rows.proofs.laws.sides_and_forms_have_one_bag.Goals as goal

pub returns-clause-source : goal.returns-clause-source
returns-clause-source c = λ p I lawful is come. source_translated p lawful I is come

pub returns-clause-dest : goal.returns-clause-dest
returns-clause-dest c = λ p I lawful is come. dest_translated p lawful I is come
