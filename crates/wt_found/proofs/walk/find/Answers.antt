use Rattle.std.proofs.Common.{sym, ◌∙◌}
use Rattle.wt_symbol.specs.Sides.{tree_of}
use Rattle.wt_plan.specs.Tree.{plan_tree}
use Rattle.wt_found.proofs.Shaping.{not_shaped}
use Rattle.wt_found.proofs.walk.find.Goals as goal

pub returns-else-is_shaped : goal.returns-else-is_shaped
returns-else-is_shaped c = record {
  exact = sym (not_shaped (tree_of c.args.side.now) c.args.anchors.now (plan_tree c.args.plan.now) (sym c.is_shaped.ensures ∙ c.if-is_shaped.false));
}
