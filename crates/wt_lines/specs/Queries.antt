-- The query that is printed for a statement that is accepted, under the rules of a list.
use Rattle.std.specs.Prelude.{◌≡◌, List}
use Rattle.wt_ast.specs.Tree.{QueryTree}
use Rattle.wt_blocks.specs.Printed.{printed}
use Rattle.wt_chains.specs.declared.applied.Applied.{Applied}
use Rattle.wt_chains.specs.Chains.{IsChain}
use Rattle.wt_place.specs.Placing.{placed}
use Rattle.wt_plan.specs.Tree.{PlanTree}
use Rattle.wt_query_plan.specs.Building.{planned}
use Rattle.wt_query_rows.specs.Scopes.{output_names}
use Rattle.wt_rule.specs.declared.Rule.{Rule}
use Rattle.wt_schema.specs.declared.schema.Table.{Table}

-- the plan of a statement, with each condition placed
abbrev pub plan_of : List Table → QueryTree → PlanTree
plan_of tables query = placed (planned tables query)

-- The last plan of the chain in which each plan is the one before with the first match of a rule applied. A list of no rules
-- has no match, so its chain ends where it begins.
pub record IsLast (tables : List Table) (rules : List Rule) (plan last : PlanTree) : Type 0 where
  pub trace : List Applied
  pub chain : IsChain tables rules plan trace last

-- the query that is printed: that of the last plan, with the statement's output names
pub record IsRewritten (tables : List Table) (rules : List Rule) (query new : QueryTree) : Type 0 where
  pub last : PlanTree
  pub is_last : IsLast tables rules (plan_of tables query) last
  pub is : new ≡ printed tables last (output_names tables query)
