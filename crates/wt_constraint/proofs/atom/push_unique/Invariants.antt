use Rattle.std.proofs.Common.{◌≡◌, ◌++◌, map, take}
use Rattle.wt_constraint.specs.declared.atom.Atom.TheVariants.{Unique}
use Rattle.wt_constraint.proofs.atom.push_unique.Given as goal

abbrev pub invariant-loop-a : goal.invariant-loop-a
invariant-loop-a l = l.atoms ≡ l.fn.atoms ++ map (Unique) (take l.a-index l.lists)
