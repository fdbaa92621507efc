use Rattle.std.proofs.Common.{◌≡◌, ◌≤◌}
use Rattle.wt_pred.specs.declared.tree.Preds.{size-Preds}
use Rattle.wt_pred.specs.Tree.{preds_tree}
use Rattle.wt_regularity.specs.Predicates.{listed_kinds, are_typed}
use Rattle.wt_regularity.proofs.predicate.+typing.Given as goal

abbrev pub decreases-is_typed : goal.decreases-is_typed
decreases-is_typed l = goal.size-is_typed l

abbrev pub decreases-are_typed : goal.decreases-are_typed
decreases-are_typed l = goal.size-are_typed l

abbrev pub invariant-are_typed-parts : goal.invariant-are_typed-parts
invariant-are_typed-parts l = record {
  smaller : size-Preds l.rest ≤ size-Preds l.fn.parts;
  same : are_typed (listed_kinds l.listed) (preds_tree l.rest) ≡ are_typed (listed_kinds l.fn.listed) (preds_tree l.fn.parts);
}
