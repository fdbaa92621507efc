use Rattle.std.proofs.Common.{◌≡◌, map, length, refl, subst, arith}
use Rattle.wt_form.specs.Views.{terms_seen, conds_seen, cond_seen, term_seen, terms_from}
use Rattle.wt_facts.specs.Facts.{known_of}
use Rattle.wt_congruent.specs.Refs.{term_behind, cond_behind}
use Rattle.wt_places.specs.Gained.{Gained, Upto}
use Rattle.wt_places.proofs.GainedLaws.{gained_start, gained_more}
use Rattle.wt_two_terms.specs.Pairs.{InnerAt}
use Rattle.wt_two_terms.proofs.pairs.push_split_each.Goals as goal

pub loop-j-init : goal.loop-j-init
loop-j-init c = gained_start (InnerAt (known_of c.args.facts.now) (term_seen c.args.term.now) (cond_seen c.args.c.now) (conds_seen c.args.conds.now) (term_seen c.args.other.now) (terms_from (map term_behind c.args.rest.now)) (map cond_behind c.args.others.now)) _ _ refl

pub loop-j-preserved : goal.loop-j-preserved
loop-j-preserved c = gained_more (InnerAt (known_of c.args.facts.now) (term_seen c.args.term.now) (cond_seen c.args.c.now) (conds_seen c.args.conds.now) (term_seen c.args.other.now) (terms_from (map term_behind c.args.rest.now)) (map cond_behind c.args.others.now)) c.loop-j.j (map terms_seen c.args.out.now.items) (map terms_seen c.loop-j.out.items) _ c.loop-j.invariant c.in_ok-push_split_at.ensures

pub returns : goal.returns
returns c =
    let end : c.loop-j.j ≡ length c.args.others.now = omega arith in
    subst (λ n. Gained (map terms_seen c.args.out.now.items) (map terms_seen c.loop-j.out.items) (Upto (InnerAt (known_of c.args.facts.now) (term_seen c.args.term.now) (cond_seen c.args.c.now) (conds_seen c.args.conds.now) (term_seen c.args.other.now) (terms_from (map term_behind c.args.rest.now)) (map cond_behind c.args.others.now)) n)) end c.loop-j.invariant
