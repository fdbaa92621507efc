use Rattle.std.proofs.Common.{map, refl, false}
use Rattle.wt_form.specs.Steps.{Row, PairRow, TermsStep}
use Rattle.wt_form.specs.Views.{form_seen, terms_seen}
use Rattle.wt_facts.specs.Facts.{known_of}
use Rattle.wt_steps.proofs.OnceLaws.{stepped}
use Rattle.wt_steps.proofs.every.steps.Goals as goal

pub returns-clause-exact : goal.returns-clause-exact
returns-clause-exact c =
    let each = c.in_ok-sums.ensures in
    stepped (TermsStep (Row (known_of c.args.facts.now)) (PairRow (known_of c.args.facts.now)) false (terms_seen c.args.form.now.terms)) c.args.form.now.head c.args.form.now.head (map form_seen c.in_ok-forms.forms.items) (map terms_seen c.in_ok-sums.sums.items) refl c.in_ok-forms.ensures.exact each
