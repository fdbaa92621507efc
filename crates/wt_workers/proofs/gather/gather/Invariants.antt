use Rattle.std.proofs.Common.{◌≡◌, ◌+◌, vec_len}
use Rattle.std.specs.Prelude.{sum}
use Rattle.wt_workers.proofs.gather.gather.Given as goal

abbrev pub invariant-loop-worker : goal.invariant-loop-worker
invariant-loop-worker g l = record {
  parts : l.all.parts + vec_len l.ended ≡ l.fn.all.parts + vec_len l.fn.ended;
  amount : l.all.amount ≡ sum l.counts.items;
  len : vec_len l.counts + vec_len l.ended ≡ vec_len l.fn.ended;
}

abbrev pub decreases-loop-worker : goal.decreases-loop-worker
decreases-loop-worker g l = vec_len l.ended
