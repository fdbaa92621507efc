use Rattle.std.proofs.Common.{◌≡◌, drop}
use Rattle.wt_board.specs.Knowledge.{is_refused}
use Rattle.wt_board.proofs.known.refused_among.Given as goal

abbrev pub invariant-loop-r : goal.invariant-loop-r
invariant-loop-r l = is_refused (drop l.r-index l.refused) l.set ≡ is_refused l.refused l.set
