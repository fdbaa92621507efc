-- The plan of a query from that of its FROM clause.
use Rattle.std.specs.Prelude.{ℕ, Bool, List, map}
use Rattle.wt_plan.specs.Tree.{PlanTree}
use Rattle.wt_query_plan.specs.Building.{Conjunct, at_place, stacked, listed, deduped}
use Rattle.wt_joins.specs.Parts.{PartTree}

-- the conditions over it, the columns that are selected, unless they are all as they stand, and DISTINCT
abbrev pub whole : Bool → Bool → List ℕ → List Conjunct → PartTree → PlanTree
whole distinct sole cols js p = deduped distinct (listed sole (map (at_place p.places) cols) (stacked p.places js p.plan))
