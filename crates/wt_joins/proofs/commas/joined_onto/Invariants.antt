use Rattle.std.proofs.Common.{◌≡◌, ◌<◌, ◌^◌}
use Rattle.std.specs.Vec.Iter.{into_iter_items}
use Rattle.wt_conjunct.specs.Views.{conjunct_trees}
use Rattle.wt_joins.specs.Parts.{part_tree, part_trees}
use Rattle.wt_joins.specs.Commas.{list_operand, list_width, AllWithin}
use Rattle.wt_joins.proofs.commas.joined_onto.Given as goal

abbrev pub invariant-loop-other : goal.invariant-loop-other
invariant-loop-other l = record {
  narrow : list_width (part_tree l.part) (part_trees (into_iter_items l.other-iterator)) < 2 ^ 32;
  within : AllWithin (part_trees (into_iter_items l.other-iterator));
  so_far : list_operand (conjunct_trees l.conjuncts) (part_tree l.part) (part_trees (into_iter_items l.other-iterator)) ≡ list_operand (conjunct_trees l.conjuncts) (part_tree l.fn.first) (part_trees l.fn.others.items);
}
