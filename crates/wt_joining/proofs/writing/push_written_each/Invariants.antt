use Rattle.std.proofs.Common.{map}
use Rattle.wt_form.specs.Views.{terms_seen, ranges_seen, conds_seen}
use Rattle.wt_congruent.specs.Refs.{cond_behind}
use Rattle.wt_joining.specs.Writing.{WrittenAt}
use Rattle.wt_places.specs.Gained.{Gained, Upto, AtPlace}
use Rattle.wt_joining.proofs.writing.push_written_each.Given as goal

abbrev pub invariant-loop-j : goal.invariant-loop-j
invariant-loop-j l = Gained (map terms_seen l.fn.out.items) (map terms_seen l.out.items) (Upto (AtPlace (WrittenAt (ranges_seen l.term.ranges) (conds_seen l.term.conds) l.term.pieces) (map cond_behind l.refs)) l.j)
