use Rattle.std.proofs.Common.{◌≤◌, length}
use Rattle.wt_sharing.proofs.Flight.{InFlight, ahead}
use Rattle.wt_sharing.proofs.sharing.put_parts.Given as goal

abbrev pub invariant-parts : goal.invariant-parts
invariant-parts g l = record {
  flight : InFlight l.bounds (g.K.Sink.written l.fn.sink) (g.K.Sink.written l.sink) l.count l.before l.next l.pairs;
  later : g.K.Sink.faults l.fn.sink ≤ g.K.Sink.faults l.sink;
}

abbrev pub decreases-parts : goal.decreases-parts
decreases-parts g l = length (ahead l.next l.pairs)
