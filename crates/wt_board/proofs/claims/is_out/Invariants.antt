use Rattle.std.proofs.Common.{◌≡◌, drop}
use Rattle.wt_board.specs.Machine.{is_out}
use Rattle.wt_board.proofs.claims.is_out.Given as goal

abbrev pub invariant-loop-t : goal.invariant-loop-t
invariant-loop-t l = is_out (drop l.t-index l.out) l.pair l.set ≡ is_out l.out l.pair l.set
