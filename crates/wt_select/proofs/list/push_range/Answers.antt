use Rattle.wt_select.proofs.Ranges.{range_next}
use Rattle.wt_select.proofs.list.push_range.Goals as goal

pub loop-k-preserved : goal.loop-k-preserved
loop-k-preserved c = range_next c.args.first c.args.out.now.items c.loop-k.out.items c.push.new.self.items c.loop-k.k c.loop-k.invariant c.in_ok-push.ensures.items
