use Rattle.std.proofs.Common.{take, map}
use Rattle.wt_symbol.specs.Sides.{pair_of}
use Rattle.wt_discover.specs.Files.{AreCounted}
use Rattle.wt_discover.proofs.lines.lines_of_pairs.Given as goal

abbrev pub invariant-loop-pair : goal.invariant-loop-pair
invariant-loop-pair g l = AreCounted l.steps l.depth (map pair_of (take l.pair-index l.pairs)) l.text.items l.count
