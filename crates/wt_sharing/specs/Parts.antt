-- The pairs of bounds, shared out part by part.
use Rattle.std.specs.Prelude.{◌≡◌, ◌<◌, ◌≤◌, ◌++◌, List, [], All, drop, length, map, Some, None}
use Rattle.std.specs.declared.option.Option.{Option}
use Rattle.wt_pair.specs.declared.lot.Lot.{Lot}
use Rattle.wt_pair.specs.Candidates.{pairs_of}
use Rattle.wt_pair.specs.Walk.{Progress}
use Rattle.wt_symbol.specs.Lawful.{IsLawful}
use Rattle.wt_symbol.specs.Sides.{PairTree, pair_of}

-- the pairs of the bounds that were not given yet
abbrev pub left : Progress → List PairTree
left p = drop p.first (pairs_of p.bounds)

-- a part has the first of the pairs that were left, 512 at most and each lawful; the others are left behind it
pub record IsNextPart (old new : Progress) (part : Lot) : Type 0 where
  pub bounds : part.bounds ≡ old.bounds
  pub together : map pair_of part.pairs ++ left new ≡ left old
  pub lawful : All (λ p. IsLawful (pair_of p)) part.pairs
  pub some : 0 < length part.pairs
  pub few : length part.pairs ≤ 512

-- the next part, or none where no pair is left
abbrev pub Gives : Progress → Progress → Option Lot → Type 0
Gives old new None = (left old ≡ []) × (left new ≡ [])
Gives old new (Some part) = IsNextPart old new part
