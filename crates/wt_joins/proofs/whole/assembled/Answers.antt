use Rattle.std.proofs.Common.{rules, arith, ◌≡◌, length, ap, ◌∙◌}
use Rattle.wt_conjunct.specs.Views.{conjunct_trees}
use Rattle.wt_joins.specs.Parts.{part_tree, part_trees}
use Rattle.wt_joins.specs.Commas.{list_width}
use Rattle.wt_joins.proofs.Listing.{places_in, places_width}
use Rattle.wt_joins.proofs.whole.assembled.Goals as goal

pub stacked-requires : goal.stacked-requires
stacked-requires c =
    let wide : length c.in_ok-part.part.places.items ≡ list_width (part_tree c.args.list.first) (part_trees c.args.list.others.items) =
    ap (λ p. length (places_in p)) c.in_ok-part.ensures.1 ∙ places_width (conjunct_trees c.deref.result.now) (part_tree c.args.list.first) (part_trees c.args.list.others.items) in
    let seen : length c.deref-3.result.now ≡ length c.in_ok-part.part.places.items = search rules in
    record { narrow = omega (arith, wide, seen, c.requires.narrow) }

pub listed-requires : goal.listed-requires
listed-requires c =
    let wide : length c.in_ok-part.part.places.items ≡ list_width (part_tree c.args.list.first) (part_trees c.args.list.others.items) =
    ap (λ p. length (places_in p)) c.in_ok-part.ensures.1 ∙ places_width (conjunct_trees c.deref.result.now) (part_tree c.args.list.first) (part_trees c.args.list.others.items) in
    let seen : length c.deref-4.result.now ≡ length c.in_ok-part.part.places.items = search rules in
    record { narrow = omega (arith, wide, seen, c.requires.narrow) }
