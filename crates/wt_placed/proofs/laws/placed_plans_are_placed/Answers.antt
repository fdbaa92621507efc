use Rattle.wt_placed.proofs.Again.{is_placed}
use Rattle.wt_placed.proofs.laws.placed_plans_are_placed.Goals as goal

pub returns : goal.returns
returns c p = is_placed p
