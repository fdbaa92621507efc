use Rattle.std.proofs.Common.{◌≡◌, ◌++◌, take, drop, vec_len}
use Rattle.wt_board.specs.Machine.{find_ticket, end_claim}
use Rattle.wt_board.proofs.claims.end_claim.Given as goal

abbrev pub invariant-loop-k : goal.invariant-loop-k
invariant-loop-k l =
    (l.out.items ≡ l.fn.out.items) × (find_ticket l.number (drop l.k l.out.items) ≡ find_ticket l.number l.out.items)
    × (take l.k l.out.items ++ end_claim l.number (drop l.k l.out.items) ≡ end_claim l.number l.out.items) × (vec_len l.out ≡ vec_len l.fn.out)
