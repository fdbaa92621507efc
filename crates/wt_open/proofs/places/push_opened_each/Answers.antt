use Rattle.std.proofs.Common.{◌≡◌, suc, ◌+◌, map, take, length, refl, sym, subst, arith}
use Rattle.wt_form.specs.Views.{terms_seen, range_seen, conds_seen}
use Rattle.wt_facts.specs.Facts.{known_of}
use Rattle.wt_congruent.specs.Refs.{range_behind}
use Rattle.wt_places.specs.Gained.{Gained, Upto, AtPlace}
use Rattle.wt_places.proofs.GainedLaws.{gained_start, gained_more}
use Rattle.wt_places.proofs.PlaceLaws.{gained_place}
use Rattle.wt_open.specs.Opens.{OpensAt, RangeRoom}
use Rattle.wt_congruent.proofs.Pairing.{at_get}
use Rattle.wt_open.proofs.OpenLaws.{length_taken}
use Rattle.wt_open.proofs.places.push_opened_each.Goals as goal

pub loop-j-init : goal.loop-j-init
loop-j-init c = gained_start (AtPlace (OpensAt (known_of c.args.facts.now) c.args.nested (conds_seen c.args.term.now.conds) c.args.term.now.pieces) (map range_behind c.args.refs.now)) _ _ refl

pub loop-j-preserved : goal.loop-j-preserved
loop-j-preserved c =
    gained_more (AtPlace (OpensAt (known_of c.args.facts.now) c.args.nested (conds_seen c.args.term.now.conds) c.args.term.now.pieces) (map range_behind c.args.refs.now)) c.loop-j.j (map terms_seen c.args.out.now.items) (map terms_seen c.loop-j.out.items) _ c.loop-j.invariant
    (gained_place range_behind (OpensAt (known_of c.args.facts.now) c.args.nested (conds_seen c.args.term.now.conds) c.args.term.now.pieces) c.args.refs.now (take c.loop-j.j c.args.refs.now) c.past-after.result.now c.loop-j.j (c.loop-j.j + 1) _ (map terms_seen c.loop-j.out.items) _ (omega arith) c.index-refs-j.is refl (let e : c.loop-j.j + 1 ≡ suc c.loop-j.j = omega arith in e) c.past-after.ensures c.in_ok-push_opened_at.ensures)

pub returns : goal.returns
returns c =
    let end : c.loop-j.j ≡ length c.args.refs.now = omega arith in
    subst (λ n. Gained (map terms_seen c.args.out.now.items) (map terms_seen c.loop-j.out.items) (Upto (AtPlace (OpensAt (known_of c.args.facts.now) c.args.nested (conds_seen c.args.term.now.conds) c.args.term.now.pieces) (map range_behind c.args.refs.now)) n)) end c.loop-j.invariant

pub push_opened_at-requires : goal.push_opened_at-requires
push_opened_at-requires c = record {
  room = subst (λ n. RangeRoom (conds_seen c.args.term.now.conds) c.args.term.now.pieces n (range_seen c.index-refs-j.result.now)) (sym (length_taken c.loop-j.j c.args.refs.now c.loop-j-test.true))
      (at_get (RangeRoom (conds_seen c.args.term.now.conds) c.args.term.now.pieces c.loop-j.j) range_behind c.args.refs.now c.loop-j.j c.index-refs-j.result c.index-refs-j.is (c.requires.room c.loop-j.j c.loop-j-test.true));
}
