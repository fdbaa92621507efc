use Rattle.std.proofs.Common.{◌≡◌, ◌-◌, ◌≤◌, ◌++◌, map, length}
use Rattle.wt_symbol.specs.Sides.{tree_of, pair_of}
use Rattle.wt_pair.specs.Walk.{rest_of_source}
use Rattle.wt_pair.proofs.walk.fill_source.Given as goal

abbrev pub invariant-anchorings : goal.invariant-anchorings
invariant-anchorings l = record {
  room : length l.pairs ≤ l.most;
  so_far : map pair_of l.pairs ++ rest_of_source l.bounds (tree_of l.source.side) l.source.symbols l.anchoring l.dest
      ≡ map pair_of l.fn.pairs ++ rest_of_source l.bounds (tree_of l.source.side) l.source.symbols l.fn.from.anchoring l.fn.from.dest;
}

abbrev pub decreases-anchorings : goal.decreases-anchorings
decreases-anchorings l = l.count - l.anchoring
