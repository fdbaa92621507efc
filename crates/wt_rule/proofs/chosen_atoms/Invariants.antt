use Rattle.std.proofs.Common.{◌≡◌, ◌++◌, drop}
use Rattle.wt_rule.specs.Texts.{chosen}
use Rattle.wt_rule.proofs.chosen_atoms.Given as goal

abbrev pub invariant-loop-k : goal.invariant-loop-k
invariant-loop-k l = l.kept ++ chosen l.set l.k (drop l.k l.atoms) ≡ chosen l.set 0 l.atoms
