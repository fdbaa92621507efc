use Rattle.std.proofs.Common.{◌≡◌, map, length, refl, subst, arith}
use Rattle.wt_form.specs.Views.{terms_seen, term_seen}
use Rattle.wt_facts.specs.Facts.{known_of}
use Rattle.wt_congruent.specs.Refs.{term_behind}
use Rattle.wt_places.specs.Gained.{Gained, Upto}
use Rattle.wt_places.proofs.GainedLaws.{gained_start, gained_more}
use Rattle.wt_two_terms.specs.Pairs.{PairAt}
use Rattle.wt_two_terms.proofs.pairs.push_pairs_each.Goals as goal

pub loop-k-init : goal.loop-k-init
loop-k-init c = gained_start (PairAt (known_of c.args.facts.now) c.args.nested (term_seen c.args.term.now) (map term_behind c.args.refs.now)) _ _ refl

pub loop-k-preserved : goal.loop-k-preserved
loop-k-preserved c = gained_more (PairAt (known_of c.args.facts.now) c.args.nested (term_seen c.args.term.now) (map term_behind c.args.refs.now)) c.loop-k.k (map terms_seen c.args.out.now.items) (map terms_seen c.loop-k.out.items) _ c.loop-k.invariant c.in_ok-push_pair.ensures

pub returns : goal.returns
returns c =
    let end : c.loop-k.k ≡ length c.args.refs.now = omega arith in
    subst (λ n. Gained (map terms_seen c.args.out.now.items) (map terms_seen c.loop-k.out.items) (Upto (PairAt (known_of c.args.facts.now) c.args.nested (term_seen c.args.term.now) (map term_behind c.args.refs.now)) n)) end c.loop-k.invariant
