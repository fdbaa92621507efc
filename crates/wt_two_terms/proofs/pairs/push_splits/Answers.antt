use Rattle.std.proofs.Common.{map, ap, ◌∙◌}
use Rattle.wt_form.specs.Views.{term_seen, terms_from}
use Rattle.wt_facts.specs.Facts.{known_of}
use Rattle.wt_congruent.specs.Refs.{term_behind, cond_behind}
use Rattle.wt_two_terms.proofs.PairLaws.{splits_turn}
use Rattle.wt_two_terms.proofs.pairs.push_splits.Goals as goal

pub returns : goal.returns
returns c = splits_turn (known_of c.args.facts.now) (term_seen c.args.term.now) (term_seen c.args.other.now) (terms_from (map term_behind c.args.rest.now)) cond_behind c.as_slice.result.now c.as_slice-2.result.now _ _ (ap (map cond_behind) c.as_slice.ensures.value ∙ c.in_ok-refs.ensures) (ap (map cond_behind) c.as_slice-2.ensures.value ∙ c.in_ok-others.ensures) c.in_ok-push_splits_each.ensures
