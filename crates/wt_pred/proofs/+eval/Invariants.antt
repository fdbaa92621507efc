use Rattle.std.proofs.Common.{◌≡◌, ◌≤◌}
use Rattle.wt_value.specs.Truths.{and_of, or_of}
use Rattle.wt_pred.specs.declared.tree.Preds.{size-Preds}
use Rattle.wt_pred.specs.Tree.{preds_tree}
use Rattle.wt_pred.specs.Meaning.{truths, least, greatest}
use Rattle.wt_pred.proofs.+eval.Given as goal

abbrev pub decreases-eval::greatest_of : goal.decreases-eval::greatest_of
decreases-eval::greatest_of l = goal.size-eval::greatest_of l

abbrev pub decreases-eval::least_of : goal.decreases-eval::least_of
decreases-eval::least_of l = goal.size-eval::least_of l

abbrev pub decreases-tree::Pred::eval : goal.decreases-tree::Pred::eval
decreases-tree::Pred::eval l = goal.size-tree::Pred::eval l

abbrev pub invariant-eval::greatest_of-parts : goal.invariant-eval::greatest_of-parts
invariant-eval::greatest_of-parts l = record {
  smaller : size-Preds l.rest ≤ size-Preds l.fn.parts;
  greatest_one : or_of l.so_far (greatest (truths (preds_tree l.rest) l.row)) ≡ greatest (truths (preds_tree l.fn.parts) l.row);
}

abbrev pub invariant-eval::least_of-parts : goal.invariant-eval::least_of-parts
invariant-eval::least_of-parts l = record {
  smaller : size-Preds l.rest ≤ size-Preds l.fn.parts;
  least_one : and_of l.so_far (least (truths (preds_tree l.rest) l.row)) ≡ least (truths (preds_tree l.fn.parts) l.row);
}
