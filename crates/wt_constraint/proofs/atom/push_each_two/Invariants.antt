use Rattle.std.proofs.Common.{◌≡◌, ◌++◌, drop}
use Rattle.wt_constraint.specs.Atoms.{each_two}
use Rattle.wt_constraint.proofs.atom.push_each_two.Given as goal

abbrev pub invariant-loop-i : goal.invariant-loop-i
invariant-loop-i l = l.atoms ++ each_two l.kind (drop l.i l.symbols) ≡ l.fn.atoms ++ each_two l.kind l.symbols
