use Rattle.std.proofs.Common.{◌≡◌}
use Rattle.wt_workers.proofs.work.take_boards.Given as goal

abbrev pub invariant-loop : goal.invariant-loop
invariant-loop g l = (l.own.parts ≡ 1) × (l.own.amount ≡ l.count)
