use Rattle.std.proofs.Common.{◌≡◌, ◌∙◌, ◌≤◌, ap, refl, rules, arith}
use Rattle.std.specs.Io.KnownBytes.{append_known}
use Rattle.std.proofs.lemmas.Result.{err_from_is_err_and}
use Rattle.wt_rule.specs.Texts.{head_line, end_line}
use Rattle.wt_outcome.specs.declared.stop.Stop.TheVariants.{Memory}
use Rattle.wt_outcome.proofs.Putting.{prefix_none, rose_since}
use Rattle.wt_discovery.proofs.RuleLines.{ends_whole, stops_after_rules, stops_before, stops_between}
use Rattle.wt_sharing.proofs.sharing.try_discover.Goals as goal

pub returns-in_err-head : goal.returns-in_err-head
returns-in_err-head g c =
    let p = err_from_is_err_and c.from_residual.result c.from_residual.ensures.1 in
    rw (p.1, p.2) (stops_before c.args.bounds.now ⊥ (g.K.Sink.written c.args.sink.now) ⊥ (λ i. i) (g.K.Sink.written c.args.sink.now) Memory (prefix_none (g.K.Sink.written c.args.sink.now) (head_line c.args.bounds.now.steps)))

pub returns-in_err-put : goal.returns-in_err-put
returns-in_err-put g c =
    let p = err_from_is_err_and c.from_residual-in_err-put.result c.from_residual-in_err-put.ensures.1 in
    let head : c.as_slice.result.now ≡ head_line c.args.bounds.now.steps = search rules in
    rw (p.1, p.2) (stops_before c.args.bounds.now _ (g.K.Sink.written c.args.sink.now) _ (λ i. i) (g.K.Sink.written c.put.new.sink) _ (rw (← head) c.in_err-put.ensures.puts))

pub returns-in_err-count : goal.returns-in_err-count
returns-in_err-count g c =
    let p = err_from_is_err_and c.from_residual-in_err-count.result c.from_residual-in_err-count.ensures.1 in
    let text : c.as_slice.result.now ≡ head_line c.args.bounds.now.steps = search rules in
    let head : g.K.Sink.written c.put.new.sink ≡ append_known (g.K.Sink.written c.args.sink.now) (head_line c.args.bounds.now.steps) = c.in_ok-put.ensures.puts ∙ ap (append_known (g.K.Sink.written c.args.sink.now)) text in
    rw (p.1, p.2) (stops_between c.args.bounds.now _ (g.K.Sink.written c.args.sink.now) (g.K.Sink.written c.put.new.sink) head _ (rose_since _ _ _ c.in_ok-put.ensures.later) (g.K.Sink.written c.put_parts.new.sink) _ c.in_err-count.ensures.puts)

pub returns-in_err-end : goal.returns-in_err-end
returns-in_err-end g c =
    let p = err_from_is_err_and c.from_residual-in_err-end.result c.from_residual-in_err-end.ensures.1 in
    let text : c.as_slice.result.now ≡ head_line c.args.bounds.now.steps = search rules in
    let head : g.K.Sink.written c.put.new.sink ≡ append_known (g.K.Sink.written c.args.sink.now) (head_line c.args.bounds.now.steps) = c.in_ok-put.ensures.puts ∙ ap (append_known (g.K.Sink.written c.args.sink.now)) text in
    let (lines, are, put) = c.in_ok-count.ensures.puts in
    rw (p.1, p.2) (stops_after_rules c.args.bounds.now ⊥ (g.K.Sink.written c.args.sink.now) (g.K.Sink.written c.put.new.sink) head (g.K.Sink.written c.put_parts.new.sink) lines c.in_ok-count.count are put ⊥ (λ i. i)
    (g.K.Sink.written c.put_parts.new.sink) Memory _ refl (prefix_none (g.K.Sink.written c.put_parts.new.sink) (end_line c.in_ok-count.count)))

pub returns-in_err-put-2 : goal.returns-in_err-put-2
returns-in_err-put-2 g c =
    let p = err_from_is_err_and c.from_residual-in_err-put-2.result c.from_residual-in_err-put-2.ensures.1 in
    let text : c.as_slice.result.now ≡ head_line c.args.bounds.now.steps = search rules in
    let head : g.K.Sink.written c.put.new.sink ≡ append_known (g.K.Sink.written c.args.sink.now) (head_line c.args.bounds.now.steps) = c.in_ok-put.ensures.puts ∙ ap (append_known (g.K.Sink.written c.args.sink.now)) text in
    let (lines, are, put) = c.in_ok-count.ensures.puts in
    let end : c.as_slice-2.result.now ≡ end_line c.in_ok-count.count = search rules in
    let later : g.K.Sink.faults c.args.sink.now ≤ g.K.Sink.faults c.put_parts.new.sink = omega (arith, c.in_ok-put.ensures.later, c.in_ok-count.ensures.later) in
    rw (p.1, p.2) (stops_after_rules c.args.bounds.now _ (g.K.Sink.written c.args.sink.now) (g.K.Sink.written c.put.new.sink) head (g.K.Sink.written c.put_parts.new.sink) lines c.in_ok-count.count are put _
    (rose_since _ _ _ (later)) (g.K.Sink.written c.put-2.new.sink) _ _ end c.in_err-put-2.ensures.puts)

pub returns : goal.returns
returns g c =
    let text : c.as_slice.result.now ≡ head_line c.args.bounds.now.steps = search rules in
    let head : g.K.Sink.written c.put.new.sink ≡ append_known (g.K.Sink.written c.args.sink.now) (head_line c.args.bounds.now.steps) = c.in_ok-put.ensures.puts ∙ ap (append_known (g.K.Sink.written c.args.sink.now)) text in
    let (lines, are, put) = c.in_ok-count.ensures.puts in
    let end : c.as_slice-2.result.now ≡ end_line c.in_ok-count.count = search rules in
    ends_whole c.args.bounds.now ⊥ (g.K.Sink.written c.args.sink.now) (g.K.Sink.written c.put.new.sink) head (g.K.Sink.written c.put_parts.new.sink) lines c.in_ok-count.count are put (g.K.Sink.written c.put-2.new.sink)
    (c.in_ok-put-2.ensures.puts ∙ ap (append_known (g.K.Sink.written c.put_parts.new.sink)) end)
