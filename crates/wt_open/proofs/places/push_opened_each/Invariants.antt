use Rattle.std.proofs.Common.{map}
use Rattle.wt_form.specs.Views.{terms_seen, conds_seen}
use Rattle.wt_facts.specs.Facts.{known_of}
use Rattle.wt_congruent.specs.Refs.{range_behind}
use Rattle.wt_places.specs.Gained.{Gained, Upto, AtPlace}
use Rattle.wt_open.specs.Opens.{OpensAt}
use Rattle.wt_open.proofs.places.push_opened_each.Given as goal

abbrev pub invariant-loop-j : goal.invariant-loop-j
invariant-loop-j l = Gained (map terms_seen l.fn.out.items) (map terms_seen l.out.items) (Upto (AtPlace (OpensAt (known_of l.facts) l.nested (conds_seen l.term.conds) l.term.pieces) (map range_behind l.refs)) l.j)
