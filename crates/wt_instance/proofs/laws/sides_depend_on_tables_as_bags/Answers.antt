use Rattle.wt_instance.proofs.SideBags.{side_bag}
use Rattle.wt_instance.proofs.laws.sides_depend_on_tables_as_bags.Goals as goal

pub returns : goal.returns
returns c = λ I tables same s A. side_bag A I tables same s
