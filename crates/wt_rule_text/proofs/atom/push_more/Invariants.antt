use Rattle.wt_rule_text.proofs.AtomLists.{IsSoFar}
use Rattle.wt_rule_text.proofs.atom.push_more.Given as goal

abbrev pub invariant-atoms : goal.invariant-atoms
invariant-atoms l = IsSoFar l.line l.fn.from l.fn.atoms.items l.counter l.at l.atoms.items
