use Rattle.std.proofs.Common.{rules, map, ap}
use Rattle.wt_form.specs.Trees.{term_then}
use Rattle.wt_form.specs.Views.{terms_seen, ranges_seen, term_seen, terms_from}
use Rattle.wt_facts.specs.Facts.{known_of}
use Rattle.wt_congruent.specs.Refs.{term_behind}
use Rattle.wt_two_terms.proofs.PairLaws.{gained_twin}
use Rattle.wt_two_terms.proofs.pairs.push_twin.Goals as goal

pub returns-in_ok-push_before : goal.returns-in_ok-push_before
returns-in_ok-push_before c =
    gained_twin (known_of c.args.facts.now) c.args.nested (term_seen c.args.term.now) (term_seen c.args.other.now) (terms_from (map term_behind c.args.rest.now)) _ (map terms_seen c.args.out.now.items) _ c.in_ok-push_before.ensures
    (ap (λ z. term_then (ranges_seen c.args.term.now.ranges) z c.args.term.now.pieces (terms_from (map term_behind c.args.rest.now))) c.in_ok-copy.ensures) (search (rules, c.if-not-nested.false)) (c.in_ok-same_term.ensures.0 c.if-branch.true)
