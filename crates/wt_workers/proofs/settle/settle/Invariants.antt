use Rattle.std.proofs.Common.{◌≡◌, ◌+◌}
use Rattle.wt_workers.proofs.settle.settle.Given as goal

abbrev pub invariant-loop : goal.invariant-loop
invariant-loop g l = record {
  parts : l.own.parts ≡ l.fn.own.parts;
  drained : l.own.amount + l.fn.drained ≡ l.fn.own.amount + l.drained;
}
