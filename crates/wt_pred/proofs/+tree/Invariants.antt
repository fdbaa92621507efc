use Rattle.std.proofs.Common.{◌≤◌}
use Rattle.wt_pred.specs.declared.tree.Preds.{size-Preds}
use Rattle.wt_pred.proofs.+tree.Given as goal

abbrev pub decreases-tree::Preds::drop : goal.decreases-tree::Preds::drop
decreases-tree::Preds::drop l = goal.size-tree::Preds::drop l

abbrev pub invariant-tree::Preds::drop-loop-self : goal.invariant-tree::Preds::drop-loop-self
invariant-tree::Preds::drop-loop-self l = size-Preds l.self ≤ size-Preds l.fn.self
