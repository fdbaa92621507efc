use Rattle.wt_board.specs.Lots.{lot_tree}
use Rattle.wt_board.specs.Keeping.{at_work}
use Rattle.wt_board.proofs.Choosing.{NoneBelow}
use Rattle.wt_board.proofs.pages.are_calm.Given as goal

abbrev pub invariant-loop-p : goal.invariant-loop-p
invariant-loop-p l = NoneBelow (lot_tree l.lot) (at_work l.out l.log) l.p
