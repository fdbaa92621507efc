use Rattle.std.proofs.Common.{◌<◌, ◌^◌, sym, subst}
use Rattle.wt_symbol.specs.Sides.{tree_of}
use Rattle.wt_form.specs.Closed.{VariablesExist}
use Rattle.wt_form.specs.Weights.{terms_size}
use Rattle.wt_steps_tests.proofs.tests.stepped.Goals as goal

pub steps-requires : goal.steps-requires
steps-requires c = record {
  exist = subst (λ f. VariablesExist f.terms) (sym c.in_ok-form.ensures) (c.forms_of_sides_have_room.ensures.exist (tree_of c.args.side.now) c.args.anchors.now);
  narrow = subst (λ f. terms_size f.terms < 2 ^ 32) (sym c.in_ok-form.ensures) (c.forms_of_sides_have_room.ensures.narrow (tree_of c.args.side.now) c.args.anchors.now c.requires.size);
}
