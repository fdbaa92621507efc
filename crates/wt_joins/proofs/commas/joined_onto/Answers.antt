use Rattle.std.proofs.Common.{rules, arith, ◌≡◌, ◌+◌, ◌<◌, ◌≤◌, ◌^◌, ◌∷◌, length, ap, sym, subst, ◌∙◌}
use Rattle.std.specs.Vec.Iter.{into_iter_items}
use Rattle.std.proofs.lemmas.List.Elements.{All-head, All-tail}
use Rattle.wt_conjunct.specs.Views.{conjunct_trees}
use Rattle.wt_joins.specs.Parts.{PartTree, part_tree, part_trees, Within}
use Rattle.wt_joins.specs.Commas.{list_operand, list_width, AllWithin}
use Rattle.wt_joins.proofs.Listing.{two_width, width_next}
use Rattle.wt_joins.proofs.commas.joined_onto.Goals as goal

pub comma_part-requires-clause-narrow : goal.comma_part-requires-clause-narrow
comma_part-requires-clause-narrow c =
    let split : into_iter_items c.loop-other.other-iterator ≡ c.in-Some.other ∷ into_iter_items c.next.new.self = search rules in
    let trees : part_trees (into_iter_items c.loop-other.other-iterator) ≡ part_tree c.in-Some.other ∷ part_trees (into_iter_items c.next.new.self) = ap part_trees split in
    let wide : list_width (part_tree c.loop-other.part) (part_tree c.in-Some.other ∷ part_trees (into_iter_items c.next.new.self)) < 2 ^ 32 = subst (λ l. list_width (part_tree c.loop-other.part) l < 2 ^ 32) trees c.loop-other.invariant.narrow in
    let both : length c.loop-other.part.places.items + length c.in-Some.other.places.items ≤ list_width (part_tree c.loop-other.part) (part_tree c.in-Some.other ∷ part_trees (into_iter_items c.next.new.self)) = two_width (part_tree c.loop-other.part) (part_tree c.in-Some.other) (part_trees (into_iter_items c.next.new.self)) in
    omega (arith, wide, both)

pub comma_part-requires-clause-within : goal.comma_part-requires-clause-within
comma_part-requires-clause-within c =
    let split : into_iter_items c.loop-other.other-iterator ≡ c.in-Some.other ∷ into_iter_items c.next.new.self = search rules in
    let trees : part_trees (into_iter_items c.loop-other.other-iterator) ≡ part_tree c.in-Some.other ∷ part_trees (into_iter_items c.next.new.self) = ap part_trees split in
    All-head (λ (p : PartTree). Within p.places) (part_tree c.in-Some.other) (part_trees (into_iter_items c.next.new.self)) (subst AllWithin trees c.loop-other.invariant.within)

pub loop-other-preserved : goal.loop-other-preserved
loop-other-preserved c =
    let split : into_iter_items c.loop-other.other-iterator ≡ c.in-Some.other ∷ into_iter_items c.next.new.self = search rules in
    let trees : part_trees (into_iter_items c.loop-other.other-iterator) ≡ part_tree c.in-Some.other ∷ part_trees (into_iter_items c.next.new.self) = ap part_trees split in
    let js = conjunct_trees c.args.conjuncts.now in
    let l = part_tree c.loop-other.part in
    let r = part_tree c.in-Some.other in
    let rest = part_trees (into_iter_items c.next.new.self) in
    let wide : list_width l (r ∷ rest) < 2 ^ 32 = subst (λ t. list_width l t < 2 ^ 32) trees c.loop-other.invariant.narrow in
    record {
      narrow = subst (λ n. n < 2 ^ 32) (sym (ap (λ t. list_width t rest) c.in_ok-part.ensures.1 ∙ width_next js l r rest)) wide;
      within = All-tail (λ (p : PartTree). Within p.places) r rest (subst AllWithin trees c.loop-other.invariant.within);
      so_far = ap (λ t. list_operand js t rest) c.in_ok-part.ensures.1 ∙ ap (list_operand js l) (sym trees) ∙ c.loop-other.invariant.so_far;
    }
