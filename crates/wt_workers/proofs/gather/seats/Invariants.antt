use Rattle.std.proofs.Common.{◌≡◌, ◌+◌, vec_len}
use Rattle.wt_workers.proofs.gather.seats.Given as goal

abbrev pub invariant-loop-number : goal.invariant-loop-number
invariant-loop-number g l = (l.all.parts + l.number ≡ l.workers + 1) × (l.all.amount ≡ 0) × (vec_len l.seats ≡ l.number)
