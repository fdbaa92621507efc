use Rattle.wt_form.specs.Views.{form_seen}
use Rattle.wt_facts.specs.Facts.{known_of}
use Rattle.wt_search.specs.Found.{AllRoom, IsNumbered, forms_of}
use Rattle.wt_search.proofs.Reaching.{SoFar}
use Rattle.wt_search.proofs.reach.reached.Given as goal

pub record Kept (l : goal.Live-loop-round) : Type 0 where
  pub numbered : IsNumbered l.found
  pub room : AllRoom (forms_of l.found)
  pub searched : SoFar (known_of l.facts) l.round (form_seen l.start) (forms_of l.found) l.first

abbrev pub invariant-loop-round : goal.invariant-loop-round
invariant-loop-round l = Kept l
