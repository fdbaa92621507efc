use Rattle.std.proofs.Common.{ℕ, ◌<◌, map}
use Rattle.wt_bag.specs.Choices.{At}
use Rattle.wt_form.specs.Views.{form_seen}
use Rattle.wt_facts.specs.Facts.{known_of}
use Rattle.wt_search.specs.Found.{Meets}
use Rattle.wt_search.proofs.meet.some_meets.Given as goal

abbrev pub invariant-loop-i : goal.invariant-loop-i
invariant-loop-i l = (i : ℕ) → i < l.i → At (Meets (known_of l.facts) (map form_seen l.others)) i (map form_seen l.forms) → ⊥
