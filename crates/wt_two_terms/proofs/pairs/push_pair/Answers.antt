use Rattle.std.proofs.Common.{◌∙◌}
use Rattle.wt_form.specs.Views.{term_seen}
use Rattle.wt_facts.specs.Facts.{known_of}
use Rattle.wt_congruent.specs.Refs.{term_behind}
use Rattle.wt_two_terms.proofs.PairLaws.{gained_pair}
use Rattle.wt_two_terms.proofs.pairs.push_pair.Goals as goal

pub returns : goal.returns
returns c = gained_pair (known_of c.args.facts.now) c.args.nested (term_seen c.args.term.now) term_behind c.args.refs.now c.as_slice.result.now c.args.k _ _ _ c.requires c.index-refs-k.is (c.as_slice.ensures.value ∙ c.in_ok-rest.ensures) c.in_ok-push_pair_before.ensures
