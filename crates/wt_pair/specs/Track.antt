-- A place that stands behind the first pairs of the bounds.
use Rattle.std.specs.Prelude.{◌≡◌, ℕ, ◌-◌, ◌^◌, min, List, length, drop}
use Rattle.wt_symbol.specs.Sides.{PairTree}
use Rattle.wt_pair.specs.declared.bounds.Bounds.{Bounds}
use Rattle.wt_pair.specs.declared.walk.Cursor.{Cursor}
use Rattle.wt_pair.specs.Candidates.{pairs_of, IsWithinLimits}
use Rattle.wt_pair.specs.Walk.{rest_of_pairs}

-- the pairs from a place on
abbrev pub rest_at : Bounds → Cursor → List PairTree
rest_at b at = rest_of_pairs b at.template at.spot.anchoring at.spot.dest

-- how many pairs of the bounds stand before a place
abbrev pub given : Bounds → Cursor → ℕ
given b at = length (pairs_of b) - length (rest_at b at)

-- what is left at the place is what is left of the pairs; their number is counted as far as 64 bits go
pub record IsOnTrack (b : Bounds) (at : Cursor) (first : ℕ) : Type 0 where
  pub limits : IsWithinLimits b
  pub rest : rest_at b at ≡ drop (given b at) (pairs_of b)
  pub counted : first ≡ min (given b at) (2 ^ 64 - 1)
