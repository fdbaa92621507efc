use Rattle.std.proofs.Common.{sym, subst}
use Rattle.wt_symbol.specs.Sides.{tree_of}
use Rattle.wt_search.specs.Room.{HasRoom}
use Rattle.wt_steps_tests.proofs.tests.reached_by.Goals as goal

pub reached-requires : goal.reached-requires
reached-requires c = record {
  room = subst HasRoom (sym c.in_ok-form.ensures) (c.forms_of_sides_have_room.ensures.exist (tree_of c.args.side.now) c.args.anchors.now, c.forms_of_sides_have_room.ensures.narrow (tree_of c.args.side.now) c.args.anchors.now c.requires.size);
}
