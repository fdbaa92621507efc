use Rattle.std.proofs.Common.{◌≡◌, ◌+◌, length, vec_len}
use Rattle.wt_workers.proofs.workers.desks_of.Given as goal

abbrev pub invariant-loop-pair : goal.invariant-loop-pair
invariant-loop-pair g l = (l.all.parts + l.pair-index ≡ length l.lot.pairs + 1) × (l.all.amount ≡ 0) × (vec_len l.desks ≡ l.pair-index)
