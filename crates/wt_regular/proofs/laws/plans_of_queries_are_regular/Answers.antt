use Rattle.wt_place.proofs.Regularity.{regular_placed}
use Rattle.wt_query_plan.specs.Building.{planned}
use Rattle.wt_regular.proofs.Regulars.{regular_plan}
use Rattle.wt_regular.proofs.laws.plans_of_queries_are_regular.Goals as goal

pub returns : goal.returns
returns c = record {
  planned = regular_plan;
  placed = λ S schema q lawful e. regular_placed S (planned S q) (regular_plan S schema q lawful e);
}
