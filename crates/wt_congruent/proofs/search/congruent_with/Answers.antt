use Rattle.std.proofs.Common.{ap, ◌^◌, ◌-◌, map}
use Rattle.wt_form.specs.Views.{terms_seen}
use Rattle.wt_facts.specs.Facts.{known_of}
use Rattle.wt_congruent.specs.Refs.{term_behind}
use Rattle.wt_congruent.proofs.Tells.{unlike, listed}
use Rattle.wt_congruent.proofs.search.congruent_with.Goals as goal

pub returns-then-weight : goal.returns-then-weight
returns-then-weight c = (λ y. cc, λ same. unlike (known_of c.args.facts.now) (terms_seen c.args.f.now.terms) (terms_seen c.args.g.now.terms) _ _ (2 ^ 64 - 1) c.weight.ensures.size c.weight-2.ensures.size c.if-weight.true same)

pub returns : goal.returns
returns c = listed (known_of c.args.facts.now) c.same_terms.result (terms_seen c.args.f.now.terms) (terms_seen c.args.g.now.terms) _ _ (ap (map term_behind) c.as_slice.ensures.value) c.in_ok-left.ensures c.same_terms.ensures
