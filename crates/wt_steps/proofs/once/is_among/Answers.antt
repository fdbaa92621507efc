use Rattle.std.proofs.Common.{refl, sym, ◌∙◌}
use Rattle.std.proofs.lemmas.Bool.{false≢true}
use Rattle.wt_form.specs.Views.{form_seen}
use Rattle.wt_steps.proofs.OnceLaws.{found_at, none_more}
use Rattle.wt_steps.proofs.once.is_among.Goals as goal

pub returns-then-same : goal.returns-then-same
returns-then-same c = (λ u. found_at form_seen c.args.forms.now c.loop-other.other-index c.other-item.result (form_seen c.args.form.now) c.loop-other-test.true c.other-item.is (c.same.ensures.0 c.if-same.true), λ u. refl)

pub loop-other-preserved : goal.loop-other-preserved
loop-other-preserved c = none_more form_seen c.args.forms.now c.loop-other.other-index c.other-item.result (form_seen c.args.form.now) c.other-item.is (λ q. absurd (false≢true (sym c.if-same.false ∙ c.same.ensures.1 q))) c.loop-other.invariant
