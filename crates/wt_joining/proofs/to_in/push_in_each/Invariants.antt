use Rattle.std.proofs.Common.{map}
use Rattle.wt_form.specs.Views.{terms_seen}
use Rattle.wt_facts.specs.Facts.{known_of}
use Rattle.wt_congruent.specs.Refs.{cond_behind, range_behind}
use Rattle.wt_joining.specs.ToIn.{InAt}
use Rattle.wt_places.specs.Gained.{Gained, Upto, AtPlace}
use Rattle.wt_joining.proofs.to_in.push_in_each.Given as goal

abbrev pub invariant-loop-j : goal.invariant-loop-j
invariant-loop-j l = Gained (map terms_seen l.fn.out.items) (map terms_seen l.out.items) (Upto (AtPlace (InAt (known_of l.facts) l.nested (map range_behind l.ranges) l.term.pieces) (map cond_behind l.refs)) l.j)
