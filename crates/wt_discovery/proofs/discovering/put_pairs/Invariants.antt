use Rattle.std.proofs.Common.{◌≤◌, map, take}
use Rattle.wt_symbol.specs.Sides.{pair_of}
use Rattle.wt_discovery.proofs.RuleLines.{PutSoFar}
use Rattle.wt_discovery.proofs.discovering.put_pairs.Given as goal

abbrev pub invariant-pairs : goal.invariant-pairs
invariant-pairs g l = record {
  so_far : PutSoFar l.bounds.steps l.bounds.depth (take l.pair-index (map pair_of l.pairs)) (g.K.Sink.written l.fn.sink) (g.K.Sink.written l.sink) l.count;
  later : g.K.Sink.faults l.fn.sink ≤ g.K.Sink.faults l.sink;
}
