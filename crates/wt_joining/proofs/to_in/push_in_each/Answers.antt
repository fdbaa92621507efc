use Rattle.std.proofs.Common.{◌≡◌, suc, ◌+◌, map, take, length, refl, subst, arith}
use Rattle.wt_form.specs.Views.{terms_seen}
use Rattle.wt_facts.specs.Facts.{known_of}
use Rattle.wt_congruent.specs.Refs.{cond_behind, range_behind}
use Rattle.wt_joining.specs.ToIn.{InAt}
use Rattle.wt_places.specs.Gained.{Gained, Upto, AtPlace}
use Rattle.wt_places.proofs.GainedLaws.{gained_start, gained_more}
use Rattle.wt_places.proofs.PlaceLaws.{gained_place}
use Rattle.wt_joining.proofs.to_in.push_in_each.Goals as goal

pub loop-j-init : goal.loop-j-init
loop-j-init c = gained_start (AtPlace (InAt (known_of c.args.facts.now) c.args.nested (map range_behind c.args.ranges.now) c.args.term.now.pieces) (map cond_behind c.args.refs.now)) _ _ refl

pub loop-j-preserved : goal.loop-j-preserved
loop-j-preserved c =
    gained_more (AtPlace (InAt (known_of c.args.facts.now) c.args.nested (map range_behind c.args.ranges.now) c.args.term.now.pieces) (map cond_behind c.args.refs.now)) c.loop-j.j (map terms_seen c.args.out.now.items) (map terms_seen c.loop-j.out.items) _ c.loop-j.invariant
    (gained_place cond_behind (InAt (known_of c.args.facts.now) c.args.nested (map range_behind c.args.ranges.now) c.args.term.now.pieces) c.args.refs.now (take c.loop-j.j c.args.refs.now) c.past-after.result.now c.loop-j.j (c.loop-j.j + 1) _ (map terms_seen c.loop-j.out.items) _ (omega arith) c.index-refs-j.is refl (let e : c.loop-j.j + 1 ≡ suc c.loop-j.j = omega arith in e) c.past-after.ensures c.in_ok-push_in_at.ensures)

pub returns : goal.returns
returns c =
    let end : c.loop-j.j ≡ length c.args.refs.now = omega arith in
    subst (λ n. Gained (map terms_seen c.args.out.now.items) (map terms_seen c.loop-j.out.items) (Upto (AtPlace (InAt (known_of c.args.facts.now) c.args.nested (map range_behind c.args.ranges.now) c.args.term.now.pieces) (map cond_behind c.args.refs.now)) n)) end c.loop-j.invariant
