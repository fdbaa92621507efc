use Rattle.std.proofs.Common.{map, subst}
use Rattle.std.specs.Prelude.{OnOk}
use Rattle.wt_form.specs.Views.{terms_seen, ranges_seen, conds_seen}
use Rattle.wt_congruent.specs.Refs.{range_behind}
use Rattle.wt_places.specs.Gained.{Gained}
use Rattle.wt_open.specs.Opens.{OpensBy}
use Rattle.wt_open.proofs.opening.push_over.Goals as goal

pub returns : goal.returns
returns c =
    subst (λ o. OnOk c.push_by.result (Gained (map terms_seen c.args.out.now.items) (map terms_seen c.push_by.new.out.items) (OpensBy o (map range_behind c.args.before.now) (ranges_seen c.args.inner.now.ranges) (conds_seen c.args.inner.now.conds) (map range_behind c.args.after.now) (conds_seen c.args.term.now.conds) c.args.term.now.pieces))) c.in_ok-opening.ensures c.push_by.ensures
