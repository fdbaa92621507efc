use Rattle.std.proofs.Common.{◌≡◌, map, length, refl, subst, arith}
use Rattle.wt_form.specs.Parts.{ranges_list}
use Rattle.wt_form.specs.Views.{terms_seen, ranges_seen}
use Rattle.wt_facts.specs.Facts.{known_of}
use Rattle.wt_congruent.specs.Refs.{cond_behind}
use Rattle.wt_places.specs.Gained.{Gained, Upto}
use Rattle.wt_drops.specs.Drops.{FallsAt}
use Rattle.wt_places.proofs.GainedLaws.{gained_start, gained_more}
use Rattle.wt_drops.proofs.dropping.push_all_fallen.Goals as goal

pub loop-j-init : goal.loop-j-init
loop-j-init c = gained_start (FallsAt (known_of c.args.facts.now) c.args.ks.now (ranges_list (ranges_seen c.args.term.now.ranges)) (map cond_behind c.args.refs.now)) _ _ refl

pub loop-j-preserved : goal.loop-j-preserved
loop-j-preserved c = gained_more (FallsAt (known_of c.args.facts.now) c.args.ks.now (ranges_list (ranges_seen c.args.term.now.ranges)) (map cond_behind c.args.refs.now)) c.loop-j.j (map terms_seen c.args.out.now.items) (map terms_seen c.loop-j.out.items) _ c.loop-j.invariant c.in_ok-push_fallen.ensures

pub returns : goal.returns
returns c =
    let end : c.loop-j.j ≡ length c.args.refs.now = omega arith in
    subst (λ n. Gained (map terms_seen c.args.out.now.items) (map terms_seen c.loop-j.out.items) (Upto (FallsAt (known_of c.args.facts.now) c.args.ks.now (ranges_list (ranges_seen c.args.term.now.ranges)) (map cond_behind c.args.refs.now)) n)) end c.loop-j.invariant
