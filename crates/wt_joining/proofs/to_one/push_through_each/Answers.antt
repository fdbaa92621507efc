use Rattle.std.proofs.Common.{◌≡◌, map, length, refl, subst, arith}
use Rattle.wt_form.specs.Views.{terms_seen}
use Rattle.wt_facts.specs.Facts.{known_of}
use Rattle.wt_congruent.specs.Refs.{cond_behind, range_behind}
use Rattle.wt_places.specs.Gained.{Gained, Upto, EachOf}
use Rattle.wt_places.proofs.GainedLaws.{gained_start, gained_more}
use Rattle.wt_places.proofs.PlaceLaws.{gained_each}
use Rattle.wt_joining.proofs.Lists.{same_get}
use Rattle.wt_joining.specs.ToOne.{MergedThrough}
use Rattle.wt_joining.proofs.to_one.push_through_each.Goals as goal

pub loop-i-init : goal.loop-i-init
loop-i-init c = gained_start (EachOf (MergedThrough (known_of c.args.facts.now) c.args.ks.now (map range_behind c.args.ranges.now) (map cond_behind c.args.refs.now) c.args.term.now.pieces c.args.end) c.args.ends.now) _ _ refl

pub loop-i-preserved : goal.loop-i-preserved
loop-i-preserved c =
    gained_more (EachOf (MergedThrough (known_of c.args.facts.now) c.args.ks.now (map range_behind c.args.ranges.now) (map cond_behind c.args.refs.now) c.args.term.now.pieces c.args.end) c.args.ends.now) c.loop-i.i (map terms_seen c.args.out.now.items) (map terms_seen c.loop-i.out.items) _ c.loop-i.invariant
    (gained_each (MergedThrough (known_of c.args.facts.now) c.args.ks.now (map range_behind c.args.ranges.now) (map cond_behind c.args.refs.now) c.args.term.now.pieces c.args.end) c.args.ends.now c.loop-i.i _ _ _ (omega arith) (same_get c.args.ends.now c.loop-i.i _ _ (omega arith)) c.in_ok-push_through.ensures)

pub returns : goal.returns
returns c =
    let end : c.loop-i.i ≡ length c.args.ends.now = omega arith in
    subst (λ n. Gained (map terms_seen c.args.out.now.items) (map terms_seen c.loop-i.out.items) (Upto (EachOf (MergedThrough (known_of c.args.facts.now) c.args.ks.now (map range_behind c.args.ranges.now) (map cond_behind c.args.refs.now) c.args.term.now.pieces c.args.end) c.args.ends.now) n)) end c.loop-i.invariant
