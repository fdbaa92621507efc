use Rattle.std.proofs.Common.{◌≡◌, take}
use Rattle.std.specs.List.{flat_map}
use Rattle.wt_symbol.specs.Sides.{pair_of}
use Rattle.wt_rule.specs.Texts.{line_of}
use Rattle.wt_discover.proofs.lines.lines_of.Given as goal

abbrev pub invariant-loop-set : goal.invariant-loop-set
invariant-loop-set l = l.text.items ≡ flat_map (line_of (pair_of l.pair)) (take l.set-index l.sets)
