use Rattle.std.proofs.Common.{rules, arith, ◌++◌, [], ◌∷◌, sym, ◌∙◌}
use Rattle.wt_tree_parts.proofs.Views.{next_name}
use Rattle.wt_tree_parts.proofs.name.place_names.Goals as goal

pub places-preserved : goal.places-preserved
places-preserved c = record {
  so_far = c.in_ok-push.ensures.ok ∙ (λ i. c.places.invariant.so_far i ++ c.in_ok-place_name.ensures i ∷ []) ∙ sym (next_name c.places.place);
  within = search (rules, arith);
}
