use Rattle.std.proofs.Common.{map}
use Rattle.wt_form.specs.Views.{terms_seen, conds_seen, cond_seen, term_seen, terms_from}
use Rattle.wt_facts.specs.Facts.{known_of}
use Rattle.wt_congruent.specs.Refs.{term_behind, cond_behind}
use Rattle.wt_places.specs.Gained.{Gained, Upto}
use Rattle.wt_two_terms.specs.Pairs.{InnerAt}
use Rattle.wt_two_terms.proofs.pairs.push_split_each.Given as goal

abbrev pub invariant-loop-j : goal.invariant-loop-j
invariant-loop-j l = Gained (map terms_seen l.fn.out.items) (map terms_seen l.out.items) (Upto (InnerAt (known_of l.facts) (term_seen l.term) (cond_seen l.c) (conds_seen l.conds) (term_seen l.other) (terms_from (map term_behind l.rest)) (map cond_behind l.others)) l.j)
