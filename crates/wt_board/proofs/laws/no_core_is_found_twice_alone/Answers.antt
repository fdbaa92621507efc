use Rattle.wt_board.proofs.Alone.{no_core_twice}
use Rattle.wt_board.proofs.laws.no_core_is_found_twice_alone.Goals as goal

pub returns : goal.returns
returns c = no_core_twice
