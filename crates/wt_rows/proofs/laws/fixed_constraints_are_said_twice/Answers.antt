use Rattle.wt_rows.proofs.Fixed.{side_said, said_side}
use Rattle.wt_rows.proofs.laws.fixed_constraints_are_said_twice.Goals as goal

pub returns : goal.returns
returns c = λ side anchors I. (side_said I anchors side, said_side I anchors side)
