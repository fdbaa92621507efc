use Rattle.std.proofs.Common.{◌≡◌, map, length, refl, subst, arith}
use Rattle.wt_form.specs.Views.{terms_seen, term_seen, terms_from}
use Rattle.wt_facts.specs.Facts.{known_of}
use Rattle.wt_congruent.specs.Refs.{term_behind, cond_behind}
use Rattle.wt_places.specs.Gained.{Gained, Upto}
use Rattle.wt_places.proofs.GainedLaws.{gained_start, gained_more}
use Rattle.wt_two_terms.specs.Pairs.{SplitAt}
use Rattle.wt_two_terms.proofs.pairs.push_splits_each.Goals as goal

pub loop-i-init : goal.loop-i-init
loop-i-init c = gained_start (SplitAt (known_of c.args.facts.now) (term_seen c.args.term.now) (map cond_behind c.args.refs.now) (term_seen c.args.other.now) (map cond_behind c.args.others.now) (terms_from (map term_behind c.args.rest.now))) _ _ refl

pub loop-i-preserved : goal.loop-i-preserved
loop-i-preserved c = gained_more (SplitAt (known_of c.args.facts.now) (term_seen c.args.term.now) (map cond_behind c.args.refs.now) (term_seen c.args.other.now) (map cond_behind c.args.others.now) (terms_from (map term_behind c.args.rest.now))) c.loop-i.i (map terms_seen c.args.out.now.items) (map terms_seen c.loop-i.out.items) _ c.loop-i.invariant c.in_ok-push_split_of.ensures

pub returns : goal.returns
returns c =
    let end : c.loop-i.i ≡ length c.args.refs.now = omega arith in
    subst (λ n. Gained (map terms_seen c.args.out.now.items) (map terms_seen c.loop-i.out.items) (Upto (SplitAt (known_of c.args.facts.now) (term_seen c.args.term.now) (map cond_behind c.args.refs.now) (term_seen c.args.other.now) (map cond_behind c.args.others.now) (terms_from (map term_behind c.args.rest.now))) n)) end c.loop-i.invariant
