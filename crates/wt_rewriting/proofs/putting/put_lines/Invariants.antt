use Rattle.std.proofs.Common.{◌≤◌, ◌-◌}
use Rattle.wt_rewriting.proofs.Lining.{SoFar}
use Rattle.wt_rewriting.proofs.putting.put_lines.Given as goal

abbrev pub invariant-pieces : goal.invariant-pieces
invariant-pieces g l = record {
  so_far : SoFar l.source.schema.now.tables l.source.book.now.rules l.source.queries.now l.n (g.K.Sink.written l.fn.sink) (g.K.Sink.written l.sink) l.refused;
  later : g.K.Sink.faults l.fn.sink ≤ g.K.Sink.faults l.sink;
  within : l.n ≤ l.count;
}

abbrev pub decreases-pieces : goal.decreases-pieces
decreases-pieces g l = l.count - l.n
