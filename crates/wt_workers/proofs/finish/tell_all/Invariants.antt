use Rattle.std.proofs.Common.{◌≡◌, ◌+◌, length, vec_len}
use Rattle.wt_board.specs.Lots.{lot_tree}
use Rattle.wt_workers.specs.Reports.{AreOfFirst}
use Rattle.wt_workers.proofs.finish.tell_all.Given as goal

abbrev pub invariant-loop-desk : goal.invariant-loop-desk
invariant-loop-desk g l = record {
  many : l.k + vec_len l.desks ≡ length l.lot.pairs;
  parts : l.own.parts ≡ l.fn.own.parts;
  boards : l.boards.parts ≡ l.fn.boards.parts + l.k;
  logged : l.boards.amount ≡ length l.told.log.items;
  drained : l.own.amount ≡ l.fn.own.amount + l.told.drained;
  first : AreOfFirst (lot_tree l.lot) l.k l.told.rules.items l.told.log.items;
}

abbrev pub decreases-loop-desk : goal.decreases-loop-desk
decreases-loop-desk g l = vec_len l.desks
