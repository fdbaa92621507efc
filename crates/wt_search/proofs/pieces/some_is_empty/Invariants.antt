use Rattle.std.proofs.Common.{map, take}
use Rattle.wt_bag.specs.Choices.{Has}
use Rattle.wt_form.specs.Trees.{Form}
use Rattle.wt_form.specs.Views.{form_seen}
use Rattle.wt_search.specs.Pieces.{IsEmpty}
use Rattle.wt_search.proofs.pieces.some_is_empty.Given as goal

abbrev pub invariant-loop-form : goal.invariant-loop-form
invariant-loop-form l = (f : Form) → Has f (map form_seen (take l.form-index l.forms)) → IsEmpty f → ⊥
