use Rattle.std.proofs.Common.{slice_index, arith}
use Rattle.wt_template.proofs.PlaceLemmas.{size_passed, sizes_passed}
use Rattle.wt_template.proofs.place.under_two.Goals as goal

pub loop-left_size-preserved : goal.loop-left_size-preserved
loop-left_size-preserved c =
    size_passed (slice_index c.args.counts.now) c.args.n c.loop-left_size.left_size c.args.variants
    c.loop-left_size.rest c.in-Some.after c.args.k (omega arith) c.loop-left_size.invariant c.in-Some.ensures

pub returns : goal.returns
returns c =
    sizes_passed (slice_index c.args.counts.now) c.args.n c.loop-left_size.left_size c.args.variants
    c.loop-left_size.rest c.args.k (omega arith) c.loop-left_size.invariant
