use Rattle.std.proofs.Common.{ℕ, ◌<◌, map}
use Rattle.wt_bag.specs.Choices.{At}
use Rattle.wt_form.specs.Congruent.{Congruent}
use Rattle.wt_form.specs.Views.{form_seen}
use Rattle.wt_facts.specs.Facts.{known_of}
use Rattle.wt_search.proofs.meet.meets.Given as goal

abbrev pub invariant-loop-j : goal.invariant-loop-j
invariant-loop-j l = (i : ℕ) → i < l.j → At (Congruent (known_of l.facts) (form_seen l.form)) i (map form_seen l.others) → ⊥
