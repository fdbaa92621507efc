use Rattle.std.proofs.Common.{map}
use Rattle.wt_form.specs.Parts.{ranges_list}
use Rattle.wt_form.specs.Views.{terms_seen, ranges_seen, term_seen}
use Rattle.wt_facts.specs.Facts.{known_of}
use Rattle.wt_congruent.specs.Refs.{cond_behind}
use Rattle.wt_places.specs.Gained.{Gained, Upto, WithoutAt}
use Rattle.wt_drops.specs.Drops.{Goes}
use Rattle.wt_drops.proofs.dropping.push_all_dropped.Given as goal

abbrev pub invariant-loop-j : goal.invariant-loop-j
invariant-loop-j l = Gained (map terms_seen l.fn.out.items) (map terms_seen l.out.items) (Upto (WithoutAt (Goes (known_of l.facts) l.ks (ranges_list (ranges_seen l.term.ranges)) (map cond_behind l.refs)) (term_seen l.term) (map cond_behind l.refs)) l.j)
