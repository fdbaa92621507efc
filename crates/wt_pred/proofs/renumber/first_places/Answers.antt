use Rattle.std.proofs.Common.{nat_eq}
use Rattle.indexmap.specs.IndexMap.{get}
use Rattle.wt_pred.proofs.Numbering.{place_next}
use Rattle.wt_pred.proofs.renumber.first_places.Goals as goal

pub loop-i-preserved : goal.loop-i-preserved
loop-i-preserved c =
    let items = c.as_slice-column-items.result.now in
    λ k. place_next items c.loop-i.i k (get nat_eq c.loop-i.places k) (get nat_eq c.note.new.places k) c.loop-i-test.true (c.loop-i.invariant k) (c.in_ok-note.ensures k)
