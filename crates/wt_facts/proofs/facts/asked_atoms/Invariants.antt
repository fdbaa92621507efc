use Rattle.std.proofs.Common.{◌↔◌}
use Rattle.wt_bag.specs.Choices.{Has}
use Rattle.wt_constraint.specs.declared.atom.Atom.{Atom}
use Rattle.wt_facts.specs.Facts.{IsAskedBelow}
use Rattle.wt_facts.proofs.facts.asked_atoms.Given as goal

abbrev pub invariant-loop-k : goal.invariant-loop-k
invariant-loop-k l = (x : Atom) → (Has x l.asked.items ↔ IsAskedBelow l.atoms l.set l.k x)
