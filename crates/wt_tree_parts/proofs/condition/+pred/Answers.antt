use Rattle.std.proofs.Common.{rules, ap, sym, ◌∙◌}
use Rattle.wt_pred.specs.declared.tree.Preds.{the_lemmas}
use Rattle.wt_pred.specs.Tree.{pred_tree, preds_tree}
use Rattle.wt_ast.specs.Tree.{cond_then}
use Rattle.wt_ast.proofs.Lists.{before, before_last}
use Rattle.wt_blocks.specs.Printed.{test_tree, test_trees}
use Rattle.wt_tree_parts.specs.Leaves.{scope_of_leaves}
use Rattle.wt_tree_parts.proofs.condition.+pred.Goals as goal

pub tests-parts-preserved : goal.tests-parts-preserved
tests-parts-preserved t c =
    let scope = scope_of_leaves c.args.sight.now.schema.now.tables c.args.sight.now.leaves.now in
    let cols = c.args.cols.now in
    let built = c.parts.built.items in
    let rest = test_trees scope cols (preds_tree c.deref-rest.result.now) in
    record {
      smaller = search (rules, the_lemmas);
      built_so_far =
          ap (λ l. before l rest) c.in_ok-push-in-More.ensures.items
          ∙ before_last built c.in_ok-test-in-More.field-0 rest
          ∙ ap (λ q. before built (cond_then q rest)) (c.in_ok-test-in-More.ensures ∙ ap (λ p. test_tree scope cols (pred_tree p)) c.deref.ensures)
          ∙ ap (λ r. before built (cond_then (test_tree scope cols (pred_tree c.in-More.part.value)) (test_trees scope cols (preds_tree r)))) c.deref-rest.ensures
          ∙ ap (λ r. before built (test_trees scope cols (preds_tree r))) (sym c.in-More.is)
          ∙ c.parts.invariant.built_so_far;
    }
