use Rattle.std.proofs.Common.{◌≡◌, ◌++◌, map, take}
use Rattle.wt_constraint.specs.declared.atom.Atom.TheVariants.{NotNull}
use Rattle.wt_constraint.proofs.atom.push_not_null.Given as goal

abbrev pub invariant-loop-a : goal.invariant-loop-a
invariant-loop-a l = l.atoms ≡ l.fn.atoms ++ map (NotNull) (take l.a-index l.lists)
