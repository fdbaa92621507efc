use Rattle.std.proofs.Common.{map, ap, ◌∙◌}
use Rattle.wt_form.specs.Views.{terms_seen, term_seen}
use Rattle.wt_facts.specs.Facts.{known_of}
use Rattle.wt_congruent.specs.Refs.{term_behind}
use Rattle.wt_two_terms.proofs.PairLaws.{pairs_turn}
use Rattle.wt_two_terms.proofs.pairs.push_pairs.Goals as goal

pub returns : goal.returns
returns c = pairs_turn (known_of c.args.facts.now) c.args.nested (term_seen c.args.term.now) (terms_seen c.args.rest.now) term_behind c.as_slice.result.now _ _ (ap (map term_behind) c.as_slice.ensures.value ∙ c.in_ok-refs.ensures) c.in_ok-push_pairs_each.ensures
