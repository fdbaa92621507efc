use Rattle.std.proofs.Common.{◌≡◌, drop}
use Rattle.wt_board.specs.Knowledge.{cores_of, has_core}
use Rattle.wt_board.proofs.known.has_core_logged.Given as goal

abbrev pub invariant-loop-e : goal.invariant-loop-e
invariant-loop-e l = has_core (cores_of l.pair (drop l.e-index l.entries)) l.set ≡ has_core (cores_of l.pair l.entries) l.set
