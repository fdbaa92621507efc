use Rattle.std.proofs.Common.{◌≡◌, ◌++◌, map, take}
use Rattle.wt_constraint.specs.Atoms.{equal}
use Rattle.wt_constraint.proofs.atom.push_equals.Given as goal

abbrev pub invariant-loop-y : goal.invariant-loop-y
invariant-loop-y l = l.atoms ≡ l.fn.atoms ++ map (equal l.kind l.x) (take l.y-index l.others)
