use Rattle.std.proofs.Common.{◌≡◌, ◌≤◌}
use Rattle.wt_pred.specs.declared.tree.Preds.{size-Preds}
use Rattle.wt_pred.specs.Tree.{preds_tree}
use Rattle.wt_pred.specs.Nulls.{nevers_true, nevers_false, every, some_of}
use Rattle.wt_props.proofs.rejecting.+nulls.Given as goal

abbrev pub decreases-all_never_false : goal.decreases-all_never_false
decreases-all_never_false l = goal.size-all_never_false l

abbrev pub decreases-all_never_true : goal.decreases-all_never_true
decreases-all_never_true l = goal.size-all_never_true l

abbrev pub decreases-is_never_false : goal.decreases-is_never_false
decreases-is_never_false l = goal.size-is_never_false l

abbrev pub decreases-is_never_true : goal.decreases-is_never_true
decreases-is_never_true l = goal.size-is_never_true l

abbrev pub decreases-some_never_false : goal.decreases-some_never_false
decreases-some_never_false l = goal.size-some_never_false l

abbrev pub decreases-some_never_true : goal.decreases-some_never_true
decreases-some_never_true l = goal.size-some_never_true l

abbrev pub invariant-all_never_false-parts : goal.invariant-all_never_false-parts
invariant-all_never_false-parts l = record {
  smaller : size-Preds l.rest ≤ size-Preds l.fn.parts;
  same : every (nevers_false l.place (preds_tree l.rest)) ≡ every (nevers_false l.place (preds_tree l.fn.parts));
}

abbrev pub invariant-all_never_true-parts : goal.invariant-all_never_true-parts
invariant-all_never_true-parts l = record {
  smaller : size-Preds l.rest ≤ size-Preds l.fn.parts;
  same : every (nevers_true l.place (preds_tree l.rest)) ≡ every (nevers_true l.place (preds_tree l.fn.parts));
}

abbrev pub invariant-some_never_false-parts : goal.invariant-some_never_false-parts
invariant-some_never_false-parts l = record {
  smaller : size-Preds l.rest ≤ size-Preds l.fn.parts;
  same : some_of (nevers_false l.place (preds_tree l.rest)) ≡ some_of (nevers_false l.place (preds_tree l.fn.parts));
}

abbrev pub invariant-some_never_true-parts : goal.invariant-some_never_true-parts
invariant-some_never_true-parts l = record {
  smaller : size-Preds l.rest ≤ size-Preds l.fn.parts;
  same : some_of (nevers_true l.place (preds_tree l.rest)) ≡ some_of (nevers_true l.place (preds_tree l.fn.parts));
}
