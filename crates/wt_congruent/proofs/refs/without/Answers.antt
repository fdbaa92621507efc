use Rattle.std.proofs.Common.{◌∙◌, ap, remove}
use Rattle.wt_congruent.proofs.Pairing.{remove-drop_at}
use Rattle.wt_congruent.proofs.refs.without.Goals as goal

pub returns : goal.returns
returns g c = c.remove.ensures.items ∙ ap (λ l. remove l c.args.j) (c.in_ok-rest.ensures.items_if_clones_equal (λ x y e. e)) ∙ remove-drop_at c.args.left.now c.args.j c.requires
