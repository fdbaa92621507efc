use Rattle.std.proofs.Common.{map, take}
use Rattle.wt_bag.specs.Choices.{Has}
use Rattle.wt_form.specs.Views.{form_seen}
use Rattle.wt_steps.proofs.once.is_among.Given as goal

abbrev pub invariant-loop-other : goal.invariant-loop-other
invariant-loop-other l = Has (form_seen l.form) (map form_seen (take l.other-index l.forms)) → ⊥
