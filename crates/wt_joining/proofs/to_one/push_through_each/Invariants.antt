use Rattle.std.proofs.Common.{map}
use Rattle.wt_form.specs.Views.{terms_seen}
use Rattle.wt_facts.specs.Facts.{known_of}
use Rattle.wt_congruent.specs.Refs.{cond_behind, range_behind}
use Rattle.wt_places.specs.Gained.{Gained, Upto, EachOf}
use Rattle.wt_joining.specs.ToOne.{MergedThrough}
use Rattle.wt_joining.proofs.to_one.push_through_each.Given as goal

abbrev pub invariant-loop-i : goal.invariant-loop-i
invariant-loop-i l = Gained (map terms_seen l.fn.out.items) (map terms_seen l.out.items) (Upto (EachOf (MergedThrough (known_of l.facts) l.ks (map range_behind l.ranges) (map cond_behind l.refs) l.term.pieces l.end) l.ends) l.i)
