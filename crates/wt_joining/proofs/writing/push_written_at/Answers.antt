use Rattle.std.proofs.Common.{map, ap, sym, subst}
use Rattle.std.specs.Prelude.{OnOk}
use Rattle.wt_form.specs.Views.{terms_seen, ranges_seen, conds_seen, cond_seen}
use Rattle.wt_congruent.specs.Refs.{cond_behind}
use Rattle.wt_places.specs.Gained.{Gained}
use Rattle.wt_joining.specs.Writing.{WrittenEitherWay, WrittenAt}
use Rattle.wt_joining.proofs.writing.push_written_at.Goals as goal

pub returns-in-Join : goal.returns-in-Join
returns-in-Join c =
    let is = ap cond_seen c.in-Join.is in
    let a = map terms_seen c.args.out.now.items in
    let b = map terms_seen c.push_both_ways.new.out.items in
    subst (λ z. OnOk c.push_both_ways.result (Gained a b (WrittenAt (ranges_seen c.args.term.now.ranges) (conds_seen c.args.term.now.conds) c.args.term.now.pieces (map cond_behind c.args.before.now) z (map cond_behind c.args.after.now)))) (sym is)
    (subst (λ z. OnOk c.push_both_ways.result (Gained a b (WrittenEitherWay (ranges_seen c.args.term.now.ranges) (conds_seen c.args.term.now.conds) c.args.term.now.pieces (map cond_behind c.args.before.now) z (map cond_behind c.args.after.now) c.in-Join.x c.in-Join.y))) is c.push_both_ways.ensures)
