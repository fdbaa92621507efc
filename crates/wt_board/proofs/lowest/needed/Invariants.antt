use Rattle.std.proofs.Common.{◌++◌}
use Rattle.wt_board.specs.Knowledge.{refused_of}
use Rattle.wt_board.specs.Viewing.{AreRefusedWithout}
use Rattle.wt_board.proofs.lowest.needed.Given as goal

abbrev pub invariant-loop-i : goal.invariant-loop-i
invariant-loop-i l = AreRefusedWithout (l.view.refused.now ++ refused_of l.view.pair l.view.rest.now) l.set l.atoms
