use Rattle.std.proofs.Common.{◌≡◌, ◌+◌, ◌-◌, ◌^◌, min, map, rules, subst, sym, arith}
use Rattle.std.proofs.lemmas.Result.{err_from_is_err_and}
use Rattle.wt_board.specs.Rules.{AreRulesOf, rule_of}
use Rattle.wt_outcome.proofs.Putting.{rose_since}
use Rattle.wt_sharing.specs.Stages.{AreLinesOf}
use Rattle.wt_sharing.proofs.Flight.{begun, next_stage, stops_first, stops_putting, stops_waiting, whole}
use Rattle.wt_sharing.proofs.PartLaws.{all_left}
use Rattle.wt_sharing.proofs.sharing.put_parts.Goals as goal

pub returns-in_err-next-clause-puts : goal.returns-in_err-next-clause-puts
returns-in_err-next-clause-puts g c =
    let p = err_from_is_err_and c.from_residual.result c.from_residual.ensures.1 in
    rw (p.1, p.2) (stops_first c.args.bounds.now (g.K.Sink.written c.args.sink.now))

pub parts-init : goal.parts-init
parts-init g c = record {
  flight = begun c.args.bounds.now (g.K.Sink.written c.args.sink.now) c.new-before.result c.new-pairs.result c.next_part.new.pairs c.in_ok-next.next c.new-before.ensures c.new-pairs.ensures.bounds (all_left c.args.bounds.now c.new-pairs.result c.new-pairs.ensures.bounds c.new-pairs.ensures.first)
      c.in_ok-next.ensures.bounds c.in_ok-next.ensures.part;
  later = omega arith;
}

pub returns-in_err-stage-clause-puts : goal.returns-in_err-stage-clause-puts
returns-in_err-stage-clause-puts g c =
    let p = err_from_is_err_and c.from_residual-in_err-stage.result c.from_residual-in_err-stage.ensures.1 in
    rw (p.1, p.2) (stops_waiting c.args.bounds.now _ _ c.parts.count c.parts.before c.parts.next c.parts.pairs c.parts.invariant.flight)

pub returns-in_err-put-clause-puts : goal.returns-in_err-put-clause-puts
returns-in_err-put-clause-puts g c =
    let p = err_from_is_err_and c.from_residual-in_err-put.result c.from_residual-in_err-put.ensures.1 in
    rw (p.1, p.2) (stops_putting c.args.bounds.now _ _ c.parts.count c.parts.before c.parts.next c.parts.pairs c.parts.invariant.flight c.in_ok-stage.stage.lines c.in_ok-stage.ensures.lines _ _
    (rose_since _ _ _ c.parts.invariant.later) (g.K.Sink.written c.put.new.sink) c.as_slice.result.now _ c.as_slice.ensures c.in_err-put.ensures.puts)

pub parts-preserved : goal.parts-preserved
parts-preserved g c =
    let count : c.saturating_add-count.result ≡ min (c.parts.count + c.in_ok-stage.stage.lines.count) (2 ^ 64 - 1) = search rules in
    record {
      flight = next_stage c.args.bounds.now _ (g.K.Sink.written c.parts.sink) c.parts.count c.parts.before c.parts.next c.parts.pairs c.parts.invariant.flight c.in_ok-stage.stage.lines c.in_ok-stage.ensures.lines
          (g.K.Sink.written c.put.new.sink) c.as_slice.result.now c.saturating_add-count.result c.as_slice.ensures c.in_ok-put.ensures.puts count c.in-Some.part c.in_ok-stage.stage.found c.run_stage.new.pairs c.in_ok-stage.stage.next c.in-Some.is
          c.in_ok-stage.ensures.found c.in_ok-stage.ensures.lawful c.in_ok-stage.ensures.bounds c.in_ok-stage.ensures.next;
      later = search rules;
    }

pub returns-in_err-last-clause-puts : goal.returns-in_err-last-clause-puts
returns-in_err-last-clause-puts g c =
    let p = err_from_is_err_and c.from_residual-in_err-last.result c.from_residual-in_err-last.ensures.1 in
    rw (p.1, p.2) (stops_waiting c.args.bounds.now _ _ c.parts.count c.parts.before c.parts.next c.parts.pairs c.parts.invariant.flight)

pub returns-in_err-put-2-clause-puts : goal.returns-in_err-put-2-clause-puts
returns-in_err-put-2-clause-puts g c =
    let p = err_from_is_err_and c.from_residual-in_err-put-2.result c.from_residual-in_err-put-2.ensures.1 in
    let are : AreLinesOf c.parts.before c.in_ok-last.last = λ s d ps r. c.in_ok-last.ensures.counted s d ps (subst (λ l. AreRulesOf s d ps (map rule_of l)) (sym c.as_slice-2.ensures) r) in
    rw (p.1, p.2) (stops_putting c.args.bounds.now _ _ c.parts.count c.parts.before c.parts.next c.parts.pairs c.parts.invariant.flight c.in_ok-last.last are _ _
    (rose_since _ _ _ c.parts.invariant.later) (g.K.Sink.written c.put-2.new.sink) c.as_slice-3.result.now _ c.as_slice-3.ensures c.in_err-put-2.ensures.puts)

pub returns-clause-puts : goal.returns-clause-puts
returns-clause-puts g c =
    let are : AreLinesOf c.parts.before c.in_ok-last.last = λ s d ps r. c.in_ok-last.ensures.counted s d ps (subst (λ l. AreRulesOf s d ps (map rule_of l)) (sym c.as_slice-2.ensures) r) in
    let count : c.saturating_add.result ≡ min (c.parts.count + c.in_ok-last.last.count) (2 ^ 64 - 1) = search rules in
    whole c.args.bounds.now _ (g.K.Sink.written c.parts.sink) c.parts.count c.parts.before c.parts.next c.parts.pairs c.parts.invariant.flight c.in_ok-last.last are
    (g.K.Sink.written c.put-2.new.sink) c.as_slice-3.result.now c.saturating_add.result c.as_slice-3.ensures c.in_ok-put-2.ensures.puts count c.in_default.is
