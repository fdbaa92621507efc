use Rattle.wt_facts.proofs.Closures.{Classes}
use Rattle.wt_facts.proofs.sames.classes_of.Given as goal

abbrev pub invariant-loop-k : goal.invariant-loop-k
invariant-loop-k l = Classes l.kind l.atoms l.set l.k l.classes.items
