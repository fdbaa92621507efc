use Rattle.std.proofs.Common.{◌≡◌, take, map, min}
use Rattle.wt_matching.specs.Filling.{place}
use Rattle.wt_found.specs.Seen.{named}
use Rattle.wt_fill.proofs.filling.capped_places.Given as goal

abbrev pub invariant-loop-number : goal.invariant-loop-number
invariant-loop-number l = l.places ≡ map (λ n. min 4294967295 (place (named l.columns) l.leaf n)) (take l.number-index l.number-items)
