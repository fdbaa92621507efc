use Rattle.std.proofs.Common.{◌∙◌, ap, sym}
use Rattle.wt_pred.specs.Tree.{preds_tree, pred_then, pred_tree}
use Rattle.wt_pred.proofs.Lists.{before, before_none, before_last}
use Rattle.wt_pred.proofs.tree.Preds.from_vec.Goals as goal

pub parts-init : goal.parts-init
parts-init c = before_none c.args.parts.items

pub parts-preserved : goal.parts-preserved
parts-preserved c =
    (λ j. before c.pop.new.self.items (pred_then (pred_tree (c.in_ok-new.ensures.ok j)) (preds_tree (c.in_ok-new-2.ensures.ok j))))
    ∙ sym (before_last c.pop.new.self.items c.in-Some.part (preds_tree c.parts.list))
    ∙ ap (λ l. before l (preds_tree c.parts.list)) (sym c.in-Some.ensures.items)
    ∙ c.parts.invariant
