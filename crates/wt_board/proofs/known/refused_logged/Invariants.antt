use Rattle.std.proofs.Common.{◌≡◌, drop}
use Rattle.wt_board.specs.Knowledge.{refused_of, is_refused}
use Rattle.wt_board.proofs.known.refused_logged.Given as goal

abbrev pub invariant-loop-e : goal.invariant-loop-e
invariant-loop-e l = is_refused (refused_of l.pair (drop l.e-index l.entries)) l.set ≡ is_refused (refused_of l.pair l.entries) l.set
