use Rattle.std.proofs.Common.{map}
use Rattle.wt_form.specs.Views.{terms_seen, term_seen, terms_from}
use Rattle.wt_facts.specs.Facts.{known_of}
use Rattle.wt_congruent.specs.Refs.{term_behind, cond_behind}
use Rattle.wt_places.specs.Gained.{Gained, Upto}
use Rattle.wt_two_terms.specs.Pairs.{SplitAt}
use Rattle.wt_two_terms.proofs.pairs.push_splits_each.Given as goal

abbrev pub invariant-loop-i : goal.invariant-loop-i
invariant-loop-i l = Gained (map terms_seen l.fn.out.items) (map terms_seen l.out.items) (Upto (SplitAt (known_of l.facts) (term_seen l.term) (map cond_behind l.refs) (term_seen l.other) (map cond_behind l.others) (terms_from (map term_behind l.rest))) l.i)
