use Rattle.std.proofs.Common.{map}
use Rattle.wt_form.specs.Views.{terms_seen, term_seen}
use Rattle.wt_facts.specs.Facts.{known_of}
use Rattle.wt_congruent.specs.Refs.{term_behind}
use Rattle.wt_places.specs.Gained.{Gained, Upto}
use Rattle.wt_two_terms.specs.Pairs.{PairAt}
use Rattle.wt_two_terms.proofs.pairs.push_pairs_each.Given as goal

abbrev pub invariant-loop-k : goal.invariant-loop-k
invariant-loop-k l = Gained (map terms_seen l.fn.out.items) (map terms_seen l.out.items) (Upto (PairAt (known_of l.facts) l.nested (term_seen l.term) (map term_behind l.refs)) l.k)
