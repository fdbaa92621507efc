use Rattle.std.proofs.Common.{take}
use Rattle.wt_board.specs.Knowledge.{cores_of}
use Rattle.wt_board.specs.Telling.{AreNear}
use Rattle.wt_board.proofs.rules.near_cores.Given as goal

abbrev pub invariant-loop-e : goal.invariant-loop-e
invariant-loop-e l = AreNear l.all l.depth (cores_of l.pair (take l.e-index l.log)) l.cores.items
