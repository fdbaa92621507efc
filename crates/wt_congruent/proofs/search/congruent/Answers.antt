use Rattle.wt_symbol.specs.Sides.{pair_of}
use Rattle.wt_form.specs.Views.{form_seen}
use Rattle.wt_facts.specs.Facts.{known_of}
use Rattle.wt_congruent.proofs.Tells.{known_tells}
use Rattle.wt_congruent.proofs.search.congruent.Goals as goal

pub returns : goal.returns
returns c =
    known_tells (pair_of c.args.pair.now) c.args.set (known_of c.in_ok-facts.facts) (form_seen c.args.f.now) (form_seen c.args.g.now) c.congruent_with.result c.in_ok-facts.ensures.under
    c.congruent_with.ensures
