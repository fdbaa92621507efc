use Rattle.std.proofs.Common.{◌≡◌, map, length, sym, subst}
use Rattle.std.specs.Prelude.{OnOk}
use Rattle.wt_form.specs.Views.{terms_seen, ranges_seen, conds_seen}
use Rattle.wt_facts.specs.Facts.{known_of}
use Rattle.wt_congruent.specs.Refs.{range_behind}
use Rattle.wt_places.specs.Gained.{Gained}
use Rattle.wt_open.specs.Opens.{opening_of, OpensBy}
use Rattle.wt_open.proofs.OpenLaws.{on_ok, gained_term, same_length}
use Rattle.wt_open.proofs.opening.push_opened_over.Goals as goal

pub returns-then-branch : goal.returns-then-branch
returns-then-branch c =
    let rb = map range_behind c.args.before.now in
    let same : length c.args.before.now ≡ length rb = sym (same_length range_behind c.args.before.now) in
    let by = subst (λ n. OnOk c.push_over.result (Gained (map terms_seen c.args.out.now.items) (map terms_seen c.push_over.new.out.items) (OpensBy (opening_of n c.args.head.now (ranges_seen c.args.inner.now.ranges) c.args.inner.now.pieces) rb (ranges_seen c.args.inner.now.ranges) (conds_seen c.args.inner.now.conds) (map range_behind c.args.after.now) (conds_seen c.args.term.now.conds) c.args.term.now.pieces))) same c.push_over.ensures in
    on_ok c.push_over.result _ _
    (gained_term (known_of c.args.facts.now) c.args.nested (conds_seen c.args.term.now.conds) c.args.term.now.pieces rb c.args.head.now (ranges_seen c.args.inner.now.ranges) (conds_seen c.args.inner.now.conds) c.args.inner.now.pieces (map range_behind c.args.after.now) (map terms_seen c.args.out.now.items) _ (c.in_ok-may_open.ensures.0 c.if-branch.true)) by
