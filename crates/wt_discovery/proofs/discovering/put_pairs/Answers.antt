use Rattle.std.proofs.Common.{◌≡◌, ◌+◌, ◌-◌, ◌^◌, min, map, rules, sym, [], arith}
use Rattle.std.specs.Io.KnownBytes.{append_known}
use Rattle.std.proofs.lemmas.Result.{err_from_is_err_and}
use Rattle.wt_discover.specs.Files.{AreLines}
use Rattle.wt_discover.proofs.Counted.{none_counted}
use Rattle.wt_symbol.specs.Sides.{pair_of}
use Rattle.wt_outcome.proofs.Putting.{append_known-nil, rose_since}
use Rattle.wt_discovery.proofs.RuleLines.{lines_of_one, next_pair, so_far_next, stops_here, stops_in}
use Rattle.wt_discovery.proofs.discovering.put_pairs.Goals as goal

pub pairs-init : goal.pairs-init
pairs-init g c = record {
  so_far = record {
    lines = [];
    are = none_counted c.args.bounds.now.steps c.args.bounds.now.depth;
    put = sym (append_known-nil (g.K.Sink.written c.args.sink.now));
  };
  later = omega arith;
}

pub returns-in_err-lines-clause-puts : goal.returns-in_err-lines-clause-puts
returns-in_err-lines-clause-puts g c =
    let p = err_from_is_err_and c.from_residual.result c.from_residual.ensures.1 in
    rw (p.1, p.2) (stops_here c.args.bounds.now (map pair_of c.args.pairs.now) ⊥ c.pairs.pair-index _ _ c.pairs.count c.pairs.invariant.so_far)

pub returns-in_err-put-clause-puts : goal.returns-in_err-put-clause-puts
returns-in_err-put-clause-puts g c =
    let p = err_from_is_err_and c.from_residual-in_err-put.result c.from_residual-in_err-put.ensures.1 in
    let text : c.as_slice.result.now ≡ c.in_ok-lines.lines.text = search rules in
    let are : AreLines (pair_of c.pair-item.result) c.args.bounds.now.steps c.args.bounds.now.depth c.as_slice.result.now c.in_ok-lines.lines.count = rw text c.in_ok-lines.ensures in
    let together = next_pair c.args.pairs.now c.pairs.pair-index c.pair-item.result c.pair-item.result c.pairs-test.true c.pair-item.is in
    rw (p.1, p.2) (stops_in c.args.bounds.now (map pair_of c.args.pairs.now) _ _ (rose_since _ _ _ c.pairs.invariant.later) c.pairs.pair-index (c.pairs.pair-index + 1) _ _ _ _ c.pairs.count c.in_ok-lines.lines.count _ _ together
    c.pairs.invariant.so_far (lines_of_one (pair_of c.pair-item.result) c.args.bounds.now.steps c.args.bounds.now.depth _ _ are) c.in_err-put.ensures.puts)

pub pairs-preserved : goal.pairs-preserved
pairs-preserved g c =
    let together = next_pair c.args.pairs.now c.pairs.pair-index c.pair-item.result c.pair-item.result c.pairs-test.true c.pair-item.is in
    let put : g.K.Sink.written c.put.new.sink ≡ append_known (g.K.Sink.written c.pairs.sink) c.in_ok-lines.lines.text = search rules in
    let count : c.saturating_add-count.result ≡ min (c.pairs.count + c.in_ok-lines.lines.count) (2 ^ 64 - 1) = search rules in
    record {
      so_far = so_far_next c.args.bounds.now.steps c.args.bounds.now.depth _ _ _ _ _ _ c.in_ok-lines.lines.text c.pairs.count c.in_ok-lines.lines.count _ together count c.pairs.invariant.so_far
          (lines_of_one (pair_of c.pair-item.result) c.args.bounds.now.steps c.args.bounds.now.depth _ _ c.in_ok-lines.ensures) put;
      later = search rules;
    }
