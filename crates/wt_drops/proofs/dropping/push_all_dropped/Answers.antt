use Rattle.std.proofs.Common.{◌≡◌, map, length, refl, subst, arith}
use Rattle.wt_form.specs.Parts.{ranges_list}
use Rattle.wt_form.specs.Views.{terms_seen, ranges_seen, term_seen}
use Rattle.wt_facts.specs.Facts.{known_of}
use Rattle.wt_congruent.specs.Refs.{cond_behind}
use Rattle.wt_places.specs.Gained.{Gained, Upto, WithoutAt}
use Rattle.wt_drops.specs.Drops.{Goes}
use Rattle.wt_places.proofs.GainedLaws.{gained_start, gained_more}
use Rattle.wt_drops.proofs.dropping.push_all_dropped.Goals as goal

pub loop-j-init : goal.loop-j-init
loop-j-init c = gained_start (WithoutAt (Goes (known_of c.args.facts.now) c.args.ks.now (ranges_list (ranges_seen c.args.term.now.ranges)) (map cond_behind c.args.refs.now)) (term_seen c.args.term.now) (map cond_behind c.args.refs.now)) _ _ refl

pub loop-j-preserved : goal.loop-j-preserved
loop-j-preserved c = gained_more (WithoutAt (Goes (known_of c.args.facts.now) c.args.ks.now (ranges_list (ranges_seen c.args.term.now.ranges)) (map cond_behind c.args.refs.now)) (term_seen c.args.term.now) (map cond_behind c.args.refs.now)) c.loop-j.j (map terms_seen c.args.out.now.items) (map terms_seen c.loop-j.out.items) _ c.loop-j.invariant c.in_ok-push_dropped.ensures

pub returns : goal.returns
returns c =
    let end : c.loop-j.j ≡ length c.args.refs.now = omega arith in
    subst (λ n. Gained (map terms_seen c.args.out.now.items) (map terms_seen c.loop-j.out.items) (Upto (WithoutAt (Goes (known_of c.args.facts.now) c.args.ks.now (ranges_list (ranges_seen c.args.term.now.ranges)) (map cond_behind c.args.refs.now)) (term_seen c.args.term.now) (map cond_behind c.args.refs.now)) n)) end c.loop-j.invariant
