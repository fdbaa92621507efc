use Rattle.std.proofs.Common.{◌≡◌, ◌++◌, ◌+◌, ◌-◌, ◌^◌, min, ap, ◌∙◌, rules}
use Rattle.wt_discover.proofs.Counted.{counted_more}
use Rattle.wt_discover.proofs.lines.lines_of_pairs.Goals as goal

pub loop-pair-preserved : goal.loop-pair-preserved
loop-pair-preserved g c =
    let more : c.extend_from_slice.new.self.items ≡ c.loop-pair.text.items ++ c.as_slice.result.now = search rules in
    let count : c.saturating_add-count.result ≡ min (c.loop-pair.count + c.in_ok-lines.lines.count) (2 ^ 64 - 1) = search rules in
    counted_more c.args.steps c.args.depth c.args.pairs.now c.loop-pair.pair-index c.pair-item.result c.pair-item.result c.loop-pair.text.items c.in_ok-lines.lines.text c.extend_from_slice.new.self.items
    c.loop-pair.count c.in_ok-lines.lines.count c.saturating_add-count.result c.loop-pair-test.true c.pair-item.is (more ∙ ap (λ l. c.loop-pair.text.items ++ l) c.as_slice.ensures) count c.loop-pair.invariant c.in_ok-lines.ensures
