use Rattle.std.proofs.Common.{◌≡◌, arith, subst}
use Rattle.std.proofs.lemmas.Result.{err_from_is_err_and}
use Rattle.std.specs.Io.KnownBytes.{append_known}
use Rattle.wt_io.specs.Causes.{Rose}
use Rattle.wt_outcome.proofs.Putting.{rose_since}
use Rattle.wt_outcome.specs.Outcomes.{Stops}
use Rattle.wt_rewriting.proofs.Lining.{more_so_far, more_stops, none_so_far, stops_here}
use Rattle.wt_rewriting.proofs.putting.put_lines.Goals as goal

pub pieces-init : goal.pieces-init
pieces-init g c = record {
  so_far = none_so_far c.args.source.now.schema.now.tables c.args.source.now.book.now.rules c.args.source.now.queries.now (g.K.Sink.written c.args.sink.now);
  later = omega arith;
  within = omega arith;
}

pub returns-in_err-made : goal.returns-in_err-made
returns-in_err-made g c =
    let p = err_from_is_err_and c.from_residual.result c.from_residual.ensures.1 in
    rw (p.1, p.2) (stops_here c.args.source.now.schema.now.tables c.args.source.now.book.now.rules c.args.source.now.queries.now c.pieces.n ⊥ _ _ c.pieces.refused c.pieces.invariant.so_far)

pub returns-in_err-put : goal.returns-in_err-put
returns-in_err-put g c =
    let p = err_from_is_err_and c.from_residual-in_err-put.result c.from_residual-in_err-put.ensures.1 in
    let stops : Stops ⊥ (Rose (g.K.Sink.faults c.pieces.sink) (g.K.Sink.faults c.put.new.sink)) (g.K.Sink.written c.pieces.sink) (g.K.Sink.written c.put.new.sink) c.in_ok-made.made.text.items c.in_err-put.field-0.0 =
    subst (λ t. Stops ⊥ (Rose (g.K.Sink.faults c.pieces.sink) (g.K.Sink.faults c.put.new.sink)) (g.K.Sink.written c.pieces.sink) (g.K.Sink.written c.put.new.sink) t c.in_err-put.field-0.0) c.as_slice.ensures.value c.in_err-put.ensures.puts in
    rw (p.1, p.2) (more_stops c.args.source.now.schema.now.tables c.args.source.now.book.now.rules c.args.source.now.queries.now c.pieces.n c.reach-end.result _ _ (rose_since _ _ _ c.pieces.invariant.later) _ _ _ _ c.pieces.refused c.in_ok-made.made.refused _
    c.pieces.invariant.so_far c.in_ok-made.ensures stops)

pub pieces-preserved : goal.pieces-preserved
pieces-preserved g c = record {
  so_far = more_so_far c.args.source.now.schema.now.tables c.args.source.now.book.now.rules c.args.source.now.queries.now c.pieces.n c.reach-end.result _ _ _ _ c.pieces.refused c.in_ok-made.made.refused c.pieces.invariant.so_far c.in_ok-made.ensures
      (subst (λ t. g.K.Sink.written c.put.new.sink ≡ append_known (g.K.Sink.written c.pieces.sink) t) c.as_slice.ensures.value c.in_ok-put.ensures.puts);
  later = omega (arith, c.pieces.invariant.later, c.in_ok-put.ensures.later);
  within = c.reach-end.ensures.within;
}
