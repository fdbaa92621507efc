-- A lot of pairs without pointers.
use Rattle.std.specs.Prelude.{ℕ, ◌<◌, ◌^◌, List, map, length}
use Rattle.wt_bag.specs.Bags.{Each}
use Rattle.wt_symbol.specs.Sides.{PairTree, pair_of}
use Rattle.wt_symbol.specs.Lawful.{IsLawful}
use Rattle.wt_pair.specs.declared.bounds.Bounds.{Bounds}
use Rattle.wt_pair.specs.declared.lot.Lot.{Lot}

pub record LotTree : Type 0 where
  pub bounds : Bounds
  pub first : ℕ
  pub pairs : List PairTree

abbrev pub lot_tree : Lot → LotTree
lot_tree l = record { bounds = l.bounds; first = l.first; pairs = map pair_of l.pairs }

-- fewer than 2^32 pairs, each of them lawful
pub record IsLot (lot : LotTree) : Type 0 where
  pub lawful : Each IsLawful lot.pairs
  pub few : length lot.pairs < 2 ^ 32
