use Rattle.std.proofs.Common.{◌≡◌, ◌+◌, ◌*◌, slice_index}
use Rattle.wt_template.specs.Places.{pairs_before}
use Rattle.wt_template.proofs.place.under_two.Given as goal

abbrev pub invariant-loop-left_size : goal.invariant-loop-left_size
invariant-loop-left_size l = l.rest + pairs_before (slice_index l.counts) 0 l.n l.left_size * l.variants ≡ l.k
