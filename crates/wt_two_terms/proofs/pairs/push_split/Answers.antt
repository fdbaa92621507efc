use Rattle.std.proofs.Common.{map, length, subst}
use Rattle.wt_form.specs.Views.{terms_seen, cond_seen, term_seen, terms_from}
use Rattle.wt_facts.specs.Facts.{known_of}
use Rattle.wt_congruent.specs.Refs.{term_behind, cond_behind}
use Rattle.wt_places.specs.Gained.{Gained, Upto}
use Rattle.wt_two_terms.specs.Pairs.{InnerAt}
use Rattle.wt_two_terms.proofs.pairs.push_split.Goals as goal

pub returns : goal.returns
returns c = subst (λ z. Gained (map terms_seen c.args.out.now.items) (map terms_seen c.push_split_each.new.out.items) (Upto (InnerAt (known_of c.args.facts.now) (term_seen c.args.term.now) (cond_seen c.args.c.now) z (term_seen c.args.other.now) (terms_from (map term_behind c.args.rest.now)) (map cond_behind c.args.others.now)) (length c.args.others.now))) c.in_ok-conds.ensures c.in_ok-push_split_each.ensures
