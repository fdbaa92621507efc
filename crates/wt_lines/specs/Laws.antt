-- What the query that is printed has in common with its statement.
use Rattle.std.specs.Prelude.{◌≡◌, List, [], None}
use Rattle.wt_ast.specs.Tree.{QueryTree}
use Rattle.wt_ast.specs.Lawful as queries
use Rattle.wt_chains.specs.Chains.{HasNoMatch}
use Rattle.wt_lines.specs.Queries.{IsRewritten, plan_of}
use Rattle.wt_query_plan.specs.Faults.{query_fault}
use Rattle.wt_query_rows.specs.Rows.{query_rows}
use Rattle.wt_query_rows.specs.Scopes.{output_names}
use Rattle.wt_rule.specs.declared.Rule.{Rule}
use Rattle.wt_schema.specs.Lawful.{IsSchema}
use Rattle.wt_schema.specs.Satisfying.{Satisfies}
use Rattle.wt_schema.specs.declared.schema.Table.{Table}
use Rattle.wt_value.specs.Values.{Tuple, IsOneBag}

-- A statement that is accepted over the tables of a schema: a query as each is that is read, without a fault.
pub record IsAccepted (tables : List Table) (query : QueryTree) : Type 0 where
  pub schema : IsSchema tables
  pub lawful : queries.IsLawful query
  pub faultless : query_fault tables [] query ≡ None

-- on every database that satisfies the schema, the query that is printed has the statement's rows, each as often
abbrev pub KeepsRows : List Rule → Type 0
KeepsRows rules = (tables : List Table) (base : List (List Tuple)) (query new : QueryTree) → IsAccepted tables query → Satisfies tables base
    → IsRewritten tables rules query new → IsOneBag (query_rows tables base new) (query_rows tables base query)

-- and the same output names
abbrev pub KeepsNames : List Rule → Type 0
KeepsNames rules = (tables : List Table) (query new : QueryTree) → IsAccepted tables query → IsRewritten tables rules query new
    → output_names tables new ≡ output_names tables query

-- It is accepted as well, and rewritten as itself.
abbrev pub Stays : List Rule → Type 0
Stays rules = (tables : List Table) (query new : QueryTree) → IsAccepted tables query → IsRewritten tables rules query new
    → (query_fault tables [] new ≡ None) × IsRewritten tables rules new new

-- no rule has a match at any node of its plan
abbrev pub HasNoMatchLeft : List Rule → Type 0
HasNoMatchLeft rules = (tables : List Table) (query new : QueryTree) → IsAccepted tables query → IsRewritten tables rules query new
    → HasNoMatch tables rules (plan_of tables new)

-- a statement has one query that the rules make of it
abbrev pub IsOne : List Rule → Type 0
IsOne rules = (tables : List Table) (query new other : QueryTree) → IsAccepted tables query → IsRewritten tables rules query new
    → IsRewritten tables rules query other → new ≡ other
