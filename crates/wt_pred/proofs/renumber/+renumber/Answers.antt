use Rattle.std.proofs.Common.{◌∙◌, ap, sym, subst, rules, nat_eq, IsSome}
use Rattle.indexmap.specs.IndexMap.{get}
use Rattle.wt_bag.proofs.EachLaws.{each_append_right}
use Rattle.wt_pred.specs.declared.tree.Preds.{the_lemmas}
use Rattle.wt_pred.specs.Tree.{pred_tree, preds_tree, pred_then}
use Rattle.wt_pred.specs.Columns.{occurring, occurring_in, renumbered, all_renumbered}
use Rattle.wt_pred.specs.Places.{HasAll, number_by}
use Rattle.wt_pred.proofs.Lists.{before, before_last}
use Rattle.wt_pred.proofs.renumber.+renumber.Goals as goal

pub renumber_parts-parts-preserved : goal.renumber_parts-parts-preserved
renumber_parts-parts-preserved t c =
    let done = c.parts.renumbered.items in
    let places = c.args.places.now in
    let number = number_by places in
    record {
      smaller = search (rules, the_lemmas);
      there =
          subst (λ r. HasAll places (occurring_in (preds_tree r))) (sym c.deref-rest.ensures)
          (each_append_right (λ k. IsSome (get nat_eq places k)) (occurring (pred_tree c.in-More.part.value)) (occurring_in (preds_tree c.in-More.more.value))
          (subst (λ r. HasAll places (occurring_in (preds_tree r))) c.in-More.is c.parts.invariant.there));
      renumbered_so_far =
          ap (λ l. before l (all_renumbered number (preds_tree c.deref-rest.result.now))) c.in_ok-push-in-More.ensures.items
          ∙ before_last done c.in_ok-renumber_by-in-More.field-0 (all_renumbered number (preds_tree c.deref-rest.result.now))
          ∙ ap (λ p. before done (pred_then p (all_renumbered number (preds_tree c.deref-rest.result.now))))
          (c.in_ok-renumber_by-in-More.ensures ∙ ap (λ p. renumbered number (pred_tree p)) c.deref.ensures)
          ∙ ap (λ r. before done (pred_then (renumbered number (pred_tree c.in-More.part.value)) (all_renumbered number (preds_tree r)))) c.deref-rest.ensures
          ∙ ap (λ r. before done (all_renumbered number (preds_tree r))) (sym c.in-More.is)
          ∙ c.parts.invariant.renumbered_so_far;
    }
