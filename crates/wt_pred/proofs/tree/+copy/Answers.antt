use Rattle.std.proofs.Common.{◌∙◌, ap, sym, rules}
use Rattle.wt_pred.specs.declared.tree.Preds.{the_lemmas}
use Rattle.wt_pred.specs.Tree.{pred_tree, preds_tree, pred_then}
use Rattle.wt_pred.proofs.Lists.{before, before_last}
use Rattle.wt_pred.proofs.tree.+copy.Goals as goal

pub copy_parts-parts-preserved : goal.copy_parts-parts-preserved
copy_parts-parts-preserved t c =
    let copied = c.parts.copied.items in
    record {
      smaller = search (rules, the_lemmas);
      copied_so_far =
          ap (λ l. before l (preds_tree c.deref-rest.result.now)) c.in_ok-push-in-More.ensures.items
          ∙ before_last copied c.in_ok-copy-in-More.field-0 (preds_tree c.deref-rest.result.now)
          ∙ ap (λ p. before copied (pred_then p (preds_tree c.deref-rest.result.now))) (c.in_ok-copy-in-More.ensures.exact ∙ ap pred_tree c.deref.ensures)
          ∙ ap (λ r. before copied (pred_then (pred_tree c.in-More.part.value) (preds_tree r))) c.deref-rest.ensures
          ∙ ap (λ r. before copied (preds_tree r)) (sym c.in-More.is)
          ∙ c.parts.invariant.copied_so_far;
    }
