use Rattle.std.proofs.Common.{[], ◌∙◌}
use Rattle.wt_place.proofs.NarrowKept.{width_placed}
use Rattle.wt_query_plan.specs.Building.{planned}
use Rattle.wt_query_bounds.proofs.Narrowing.{query_width}
use Rattle.wt_query_bounds.proofs.laws.built_plans_are_as_wide_as_the_output.Goals as goal

pub returns : goal.returns
returns c = record {
  planned = λ S q e. query_width S q [] e;
  placed = λ S q e. width_placed (planned S q) ∙ query_width S q [] e;
}
