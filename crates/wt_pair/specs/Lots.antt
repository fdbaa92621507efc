-- Lots of pairs in a row.
use Rattle.std.specs.Prelude.{◌≡◌, ℕ, ◌+◌, ◌-◌, ◌^◌, ◌++◌, min, length, map, take, drop, All}
use Rattle.wt_symbol.specs.Lawful.{IsLawful}
use Rattle.wt_symbol.specs.Sides.{pair_of}
use Rattle.wt_pair.specs.declared.lot.Lot.{Lot}
use Rattle.wt_pair.specs.Candidates.{pairs_of}
use Rattle.wt_pair.specs.Walk.{Progress}

-- the lot has the bounds, begins where the pairs given before end (a number past 64 bits stands still there), and has as many of the
-- next pairs as were asked for, or the rest, each of them lawful; it follows them
pub record AreNext (most : ℕ) (old new : Progress) (lot : Lot) : Type 0 where
  pub bounds : lot.bounds ≡ old.bounds
  pub first : lot.first ≡ min old.first (2 ^ 64 - 1)
  pub pairs : map pair_of lot.pairs ≡ take most (drop old.first (pairs_of old.bounds))
  pub lawful : All (λ p. IsLawful (pair_of p)) lot.pairs
  pub next : new.first ≡ old.first + length lot.pairs
  pub together : take new.first (pairs_of old.bounds) ≡ take old.first (pairs_of old.bounds) ++ map pair_of lot.pairs

-- the next 4096 pairs, or the rest
abbrev pub IsNextLot : Progress → Progress → Lot → Type 0
IsNextLot = AreNext 4096
