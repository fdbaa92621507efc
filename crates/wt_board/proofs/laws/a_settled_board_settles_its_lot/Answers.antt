use Rattle.wt_board.proofs.Settling.{settled_settles}
use Rattle.wt_board.proofs.laws.a_settled_board_settles_its_lot.Goals as goal

pub returns : goal.returns
returns c = settled_settles
