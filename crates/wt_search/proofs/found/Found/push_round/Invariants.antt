use Rattle.wt_facts.specs.Facts.{known_of}
use Rattle.wt_search.specs.Found.{AllRoom, IsNumbered, Grown, GoesBetween, forms_of}
use Rattle.wt_search.proofs.found.Found.push_round.Given as goal

pub record Kept (l : goal.Live-loop-i) : Type 0 where
  pub numbered : IsNumbered l.self
  pub room : AllRoom (forms_of l.self)
  pub grown : Grown (forms_of l.fn.self) (forms_of l.self) (GoesBetween (known_of l.facts) (forms_of l.fn.self) l.first l.i)

abbrev pub invariant-loop-i : goal.invariant-loop-i
invariant-loop-i l = Kept l
