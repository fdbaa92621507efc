-- The plan of a query without a fault may be placed.
use Rattle.std.proofs.Common.{◌≡◌, ℕ, List, [], ◌∷◌, length, None}
use Rattle.wt_bag.specs.Bags.{Each}
use Rattle.wt_value.specs.Values.{Tuple}
use Rattle.wt_ast.specs.Tree.{QueryTree}
use Rattle.wt_schema.specs.declared.schema.Table.{Table}
use Rattle.wt_place.specs.Keeping.{ConditionsFit}
use Rattle.wt_place.proofs.Fitting.{fits_conditions}
use Rattle.wt_query_rows.specs.Scopes.{columns_named}
use Rattle.wt_query_rows.specs.Rows.{table_rows}
use Rattle.wt_query_plan.specs.Building.{planned}
use Rattle.wt_query_plan.specs.Faults.{query_fault}
use Rattle.wt_query_plan.proofs.InRange.{fits_query}

-- a database without tables has no rows
no_rows : (S T : List Table) (name : List ℕ) → Each (λ (row : Tuple). length row ≡ length (columns_named S name)) (table_rows T [] name)
no_rows S [] name = tt
no_rows S (t ∷ T) name = tt

pub conditions_there : (S : List Table) (q : QueryTree) → query_fault S [] q ≡ None → ConditionsFit (planned S q)
conditions_there S q e = fits_conditions [] (planned S q) (fits_query [] S (λ name. no_rows S S name) q [] e)
