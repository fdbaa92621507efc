use Rattle.std.proofs.Common.{◌≡◌}
use Rattle.wt_workers.proofs.work.go_round.Given as goal

abbrev pub invariant-loop-k : goal.invariant-loop-k
invariant-loop-k g l = (l.own.parts ≡ 1) × (l.own.amount ≡ l.count)
