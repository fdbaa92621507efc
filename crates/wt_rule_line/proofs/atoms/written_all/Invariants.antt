use Rattle.std.proofs.Common.{◌≡◌, map, take}
use Rattle.wt_rule_line.specs.Sets.{as_written}
use Rattle.wt_rule_line.proofs.atoms.written_all.Given as goal

abbrev pub invariant-loop-atom : goal.invariant-loop-atom
invariant-loop-atom l = l.all.items ≡ map (as_written l.anchors) (take l.atom-index l.atoms)
