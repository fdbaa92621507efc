use Rattle.std.proofs.Common.{map, ap}
use Rattle.wt_form.specs.Views.{terms_seen}
use Rattle.wt_facts.specs.Facts.{known_of}
use Rattle.wt_congruent.specs.Refs.{term_behind}
use Rattle.wt_congruent.proofs.Tells.{listed}
use Rattle.wt_two_terms.proofs.splits.have_same_rows.Goals as goal

pub returns : goal.returns
returns c = listed (known_of c.args.facts.now) c.same_terms.result (terms_seen c.args.a.now) (terms_seen c.args.b.now) _ _ (ap (map term_behind) c.as_slice.ensures.value) c.in_ok-left.ensures c.same_terms.ensures
