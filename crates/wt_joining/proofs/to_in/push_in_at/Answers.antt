use Rattle.std.proofs.Common.{map, ap, sym, subst}
use Rattle.std.specs.Prelude.{OnOk}
use Rattle.wt_form.specs.Views.{terms_seen, cond_seen}
use Rattle.wt_facts.specs.Facts.{known_of}
use Rattle.wt_congruent.specs.Refs.{cond_behind, range_behind}
use Rattle.wt_places.specs.Gained.{Gained}
use Rattle.wt_joining.specs.ToIn.{InAt}
use Rattle.wt_joining.proofs.to_in.push_in_at.Goals as goal

pub returns-in-Join : goal.returns-in-Join
returns-in-Join c =
    subst (λ z. OnOk c.push_both_ways.result (Gained (map terms_seen c.args.out.now.items) (map terms_seen c.push_both_ways.new.out.items) (InAt (known_of c.args.facts.now) c.args.nested (map range_behind c.args.ranges.now) c.args.term.now.pieces (map cond_behind c.args.before.now) z (map cond_behind c.args.after.now)))) (sym (ap cond_seen c.in-Join.is)) c.push_both_ways.ensures
