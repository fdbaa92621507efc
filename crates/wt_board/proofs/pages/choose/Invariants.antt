use Rattle.wt_board.specs.Lots.{lot_tree}
use Rattle.wt_board.specs.Keeping.{Keeps, at_work}
use Rattle.wt_board.proofs.Choosing.{NoneBelow}
use Rattle.wt_board.proofs.pages.choose.Given as goal

abbrev pub invariant-loop-p : goal.invariant-loop-p
invariant-loop-p l = record {
  keeps : Keeps (lot_tree l.lot) l.log l.pages.items;
  none : NoneBelow (lot_tree l.lot) (at_work l.out l.log) l.p;
}
