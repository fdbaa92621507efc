use Rattle.std.proofs.Common.{arith}
use Rattle.wt_place.proofs.Measured.{nodes_kept}
use Rattle.wt_query_plan.specs.Building.{planned}
use Rattle.wt_query_bounds.proofs.Counting.{query_nodes}
use Rattle.wt_query_bounds.proofs.laws.built_plans_are_small.Goals as goal

pub returns : goal.returns
returns c = record {
  nodes = query_nodes;
  placed = λ S q few small. omega (arith, nodes_kept (planned S q), query_nodes S q, few, small);
}
