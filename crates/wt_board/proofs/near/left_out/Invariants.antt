use Rattle.std.proofs.Common.{◌≡◌, ◌≤◌}
use Rattle.wt_cores.specs.Cores.{missing}
use Rattle.wt_board.proofs.near.left_out.Given as goal

abbrev pub invariant-loop-i : goal.invariant-loop-i
invariant-loop-i l = record {
  counted : l.count ≡ missing l.i l.all l.set;
  few : l.count ≤ l.i;
}
