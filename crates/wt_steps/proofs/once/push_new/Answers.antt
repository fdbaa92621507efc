use Rattle.std.proofs.Common.{map, sym, subst, ◌∙◌}
use Rattle.std.proofs.lemmas.Bool.{false≢true}
use Rattle.wt_bag.specs.Choices.{Has, Apart}
use Rattle.wt_form.specs.Views.{form_seen}
use Rattle.wt_places.proofs.GainedLaws.{pushed}
use Rattle.wt_steps.proofs.OnceLaws.{apart_with, has_with}
use Rattle.wt_steps.proofs.once.push_new.Goals as goal

pub returns-clause-gains : goal.returns-clause-gains
returns-clause-gains c = has_with (map form_seen c.args.out.now.items) (map form_seen c.push.new.self.items) (form_seen c.args.form) (pushed form_seen c.args.out.now.items c.push.new.self.items c.args.form c.in_ok-push.ensures.items)

pub returns-clause-once : goal.returns-clause-once
returns-clause-once c =
    subst Apart (sym (pushed form_seen c.args.out.now.items c.push.new.self.items c.args.form c.in_ok-push.ensures.items))
    (apart_with (map form_seen c.args.out.now.items) (form_seen c.args.form) c.requires (λ h. false≢true (sym c.if-is_among.false ∙ c.is_among.ensures.1 (subst (λ z. Has (form_seen c.args.form) (map form_seen z)) (sym c.deref.ensures.value) h))))
