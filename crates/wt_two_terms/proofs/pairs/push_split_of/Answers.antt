use Rattle.std.proofs.Common.{map, length, refl, ◌∙◌}
use Rattle.wt_form.specs.Views.{term_seen, terms_from}
use Rattle.wt_facts.specs.Facts.{known_of}
use Rattle.wt_congruent.specs.Refs.{term_behind, cond_behind}
use Rattle.wt_two_terms.proofs.PairLaws.{gained_split}
use Rattle.wt_two_terms.proofs.pairs.push_split_of.Goals as goal

pub returns : goal.returns
returns c = gained_split (known_of c.args.facts.now) (term_seen c.args.term.now) (term_seen c.args.other.now) (terms_from (map term_behind c.args.rest.now)) cond_behind c.args.refs.now c.as_slice.result.now c.args.others.now c.args.i (length c.args.others.now) _ _ _ _ c.requires c.index-refs-i.is (c.as_slice.ensures.value ∙ c.in_ok-left.ensures) refl refl c.in_ok-push_split.ensures
