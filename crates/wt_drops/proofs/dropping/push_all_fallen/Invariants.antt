use Rattle.std.proofs.Common.{map}
use Rattle.wt_form.specs.Parts.{ranges_list}
use Rattle.wt_form.specs.Views.{terms_seen, ranges_seen}
use Rattle.wt_facts.specs.Facts.{known_of}
use Rattle.wt_congruent.specs.Refs.{cond_behind}
use Rattle.wt_places.specs.Gained.{Gained, Upto}
use Rattle.wt_drops.specs.Drops.{FallsAt}
use Rattle.wt_drops.proofs.dropping.push_all_fallen.Given as goal

abbrev pub invariant-loop-j : goal.invariant-loop-j
invariant-loop-j l = Gained (map terms_seen l.fn.out.items) (map terms_seen l.out.items) (Upto (FallsAt (known_of l.facts) l.ks (ranges_list (ranges_seen l.term.ranges)) (map cond_behind l.refs)) l.j)
