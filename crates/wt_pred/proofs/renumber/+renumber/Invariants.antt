use Rattle.std.proofs.Common.{◌≡◌, ◌≤◌}
use Rattle.wt_pred.specs.declared.tree.Preds.{size-Preds}
use Rattle.wt_pred.specs.Tree.{preds_tree}
use Rattle.wt_pred.specs.Columns.{occurring_in, all_renumbered}
use Rattle.wt_pred.specs.Places.{HasAll, number_by}
use Rattle.wt_pred.proofs.Lists.{before}
use Rattle.wt_pred.proofs.renumber.+renumber.Given as goal

abbrev pub decreases-renumber_by : goal.decreases-renumber_by
decreases-renumber_by l = goal.size-renumber_by l

abbrev pub decreases-renumber_parts : goal.decreases-renumber_parts
decreases-renumber_parts l = goal.size-renumber_parts l

abbrev pub invariant-renumber_parts-parts : goal.invariant-renumber_parts-parts
invariant-renumber_parts-parts l = record {
  smaller : size-Preds l.rest ≤ size-Preds l.fn.parts;
  there : HasAll l.places (occurring_in (preds_tree l.rest));
  renumbered_so_far : before l.renumbered.items (all_renumbered (number_by l.places) (preds_tree l.rest)) ≡ all_renumbered (number_by l.places) (preds_tree l.fn.parts);
}
