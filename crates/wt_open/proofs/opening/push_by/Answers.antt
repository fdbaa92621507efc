use Rattle.std.proofs.Common.{map}
use Rattle.wt_form.specs.Views.{terms_seen, ranges_seen, conds_seen}
use Rattle.wt_congruent.specs.Refs.{range_behind}
use Rattle.wt_opening.specs.Opened.{opening_seen}
use Rattle.wt_open.proofs.OpenLaws.{on_ok, gained_by}
use Rattle.wt_open.proofs.opening.push_by.Goals as goal

pub returns-then-can_open_term : goal.returns-then-can_open_term
returns-then-can_open_term c =
    on_ok c.push_opened_term.result _ _
    (λ n. gained_by (opening_seen c.args.opening.now) (map range_behind c.args.before.now) (ranges_seen c.args.inner.now.ranges) (conds_seen c.args.inner.now.conds) (map range_behind c.args.after.now) (conds_seen c.args.term.now.conds) c.args.term.now.pieces (map terms_seen c.args.out.now.items) _ n (c.can_open_term.ensures.0 c.if-can_open_term.true)) c.push_opened_term.ensures
