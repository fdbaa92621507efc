use Rattle.std.proofs.Common.{◌≡◌, ◌-◌, ◌≤◌, ◌++◌, map, length}
use Rattle.wt_template.specs.Shapes.{templates}
use Rattle.wt_symbol.specs.Sides.{pair_of}
use Rattle.wt_pair.specs.Walk.{rest_of_pairs}
use Rattle.wt_pair.proofs.walk.fill.Given as goal

abbrev pub invariant-templates : goal.invariant-templates
invariant-templates l = record {
  room : length l.pairs ≤ l.most;
  so_far : map pair_of l.pairs ++ rest_of_pairs l.bounds l.template l.spot.anchoring l.spot.dest
      ≡ map pair_of l.fn.pairs ++ rest_of_pairs l.bounds l.fn.from.template l.fn.from.spot.anchoring l.fn.from.spot.dest;
}

abbrev pub decreases-templates : goal.decreases-templates
decreases-templates l = length (templates l.bounds.ops.0 l.bounds.src) - l.template
