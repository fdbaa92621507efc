use Rattle.std.proofs.Common.{map, ◌⊎◌}
use Rattle.wt_form.specs.Views.{term_seen, terms_from}
use Rattle.wt_facts.specs.Facts.{known_of}
use Rattle.wt_congruent.specs.Refs.{term_behind}
use Rattle.wt_places.proofs.GainedLaws.{gained_seq}
use Rattle.wt_two_terms.specs.Pairs.{SplitFrom, TwinOf}
use Rattle.wt_two_terms.proofs.pairs.push_pair_before.Goals as goal

pub returns : goal.returns
returns c =
    let t = term_seen c.args.term.now in
    let u = term_seen c.args.other.now in
    gained_seq (λ us. SplitFrom (known_of c.args.facts.now) t u (terms_from (map term_behind c.args.rest.now)) us ⊎ SplitFrom (known_of c.args.facts.now) u t (terms_from (map term_behind c.args.rest.now)) us) (TwinOf (known_of c.args.facts.now) c.args.nested t u (terms_from (map term_behind c.args.rest.now))) _ _ _
    (gained_seq (SplitFrom (known_of c.args.facts.now) t u (terms_from (map term_behind c.args.rest.now))) (SplitFrom (known_of c.args.facts.now) u t (terms_from (map term_behind c.args.rest.now))) _ _ _ c.in_ok-push_splits.ensures c.in_ok-push_splits-2.ensures) c.in_ok-push_twin.ensures
