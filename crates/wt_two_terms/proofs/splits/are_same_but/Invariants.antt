use Rattle.std.proofs.Common.{◌≡◌, ℕ, List, map, take, true}
use Rattle.wt_bag.specs.Choices.{Has}
use Rattle.wt_form.specs.Congruent.{CondsSame, expr_same, pieces_same}
use Rattle.wt_form.specs.Views.{conds_seen}
use Rattle.wt_facts.specs.Facts.{known_of}
use Rattle.wt_congruent.specs.Refs.{cond_behind}
use Rattle.wt_two_terms.proofs.splits.are_same_but.Given as goal

abbrev pub invariant-loop-i : goal.invariant-loop-i
invariant-loop-i l = (ks : List ℕ) → Has ks (take l.i l.ways.items) → (CondsSame (known_of l.facts) ks (conds_seen l.conds) (map cond_behind l.left) × (expr_same (known_of l.facts) ks l.e l.f ≡ true) × (pieces_same (known_of l.facts) ks l.term.pieces l.other.pieces ≡ true)) → ⊥
