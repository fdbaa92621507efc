use Rattle.std.proofs.Common.{◌≡◌, drop}
use Rattle.std.specs.Prelude.{is_some}
use Rattle.wt_board.specs.Machine.{find_ticket}
use Rattle.wt_board.proofs.claims.is_claimed.Given as goal

abbrev pub invariant-loop-t : goal.invariant-loop-t
invariant-loop-t l = is_some (find_ticket l.number (drop l.t-index l.out)) ≡ is_some (find_ticket l.number l.out)
