use Rattle.std.proofs.Common.{◌≡◌, vec_len}
use Rattle.wt_pred.specs.Tree.{preds_tree, pred_trees}
use Rattle.wt_pred.proofs.Lists.{before}
use Rattle.wt_pred.proofs.tree.Preds.from_vec.Given as goal

abbrev pub invariant-parts : goal.invariant-parts
invariant-parts l = before l.parts.items (preds_tree l.list) ≡ pred_trees l.fn.parts.items

abbrev pub decreases-parts : goal.decreases-parts
decreases-parts l = vec_len l.parts
