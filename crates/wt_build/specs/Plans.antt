-- What the plan of a statement is.
use Rattle.std.specs.Prelude.{◌≡◌, List}
use Rattle.wt_ast.specs.Tree.{QueryTree}
use Rattle.wt_schema.specs.declared.schema.Table.{Table}
use Rattle.wt_plan.specs.declared.plan.Named.{Named}
use Rattle.wt_plan.specs.Tree.{plan_tree}
use Rattle.wt_place.specs.Placing.{placed}
use Rattle.wt_query_rows.specs.Scopes.{output_names}
use Rattle.wt_query_plan.specs.Building.{planned}

-- the built plan, placed, with the output names of the query
abbrev pub IsPlan : List Table → QueryTree → Named → Type 0
IsPlan S q named = (plan_tree named.plan ≡ placed (planned S q)) × (named.names ≡ output_names S q)
