use Rattle.std.proofs.Common.{sym, ◌∙◌, subst, map}
use Rattle.std.proofs.lemmas.Bool.{false≢true}
use Rattle.std.proofs.lemmas.List.{take_all}
use Rattle.wt_bag.specs.Choices.{Has}
use Rattle.wt_form.specs.Views.{form_seen}
use Rattle.wt_search.specs.Pieces.{IsEmpty}
use Rattle.wt_steps.proofs.OnceLaws.{none_more}
use Rattle.wt_search.proofs.pieces.some_is_empty.Goals as goal

pub loop-form-preserved : goal.loop-form-preserved
loop-form-preserved c f h e =
    none_more form_seen c.args.forms.now c.loop-form.form-index c.form-item.result f c.form-item.is (λ q. false≢true (sym c.if-is_empty.false ∙ c.is_empty.ensures (subst IsEmpty q e))) (λ k. c.loop-form.invariant f k e) h

pub returns : goal.returns
returns c f h e = absurd (c.loop-form.invariant f (subst (λ xs. Has f (map form_seen xs)) (sym (take_all c.loop-form.form-index c.args.forms.now c.loop-form-test.false)) h) e)
