use Rattle.wt_place.proofs.PlaceLaw.{place_law}
use Rattle.wt_place.proofs.laws.placing_keeps_rows.Goals as goal

pub returns : goal.returns
returns c base p h = place_law base p h
