use Rattle.std.proofs.Common.{◌≡◌, map, take}
use Rattle.wt_joining.specs.Changes.{changed}
use Rattle.wt_joining.proofs.changes.changed_pieces.Given as goal

abbrev pub invariant-loop-x : goal.invariant-loop-x
invariant-loop-x l = l.out.items ≡ map (changed l.change) (take l.x-index l.pieces)
