-- What a rule gives at a node of a plan.
use Rattle.std.specs.Prelude.{◌≡◌, ℕ, List, Option, Some, None}
use Rattle.wt_schema.specs.declared.schema.Table.{Table}
use Rattle.wt_symbol.specs.Sides.{PairTree}
use Rattle.wt_constraint.specs.declared.set.AtomSet.{AtomSet}
use Rattle.wt_plan.specs.declared.plan.Plan.{Plan}
use Rattle.wt_plan.specs.Tree.{PlanTree, plan_tree}
use Rattle.wt_matching.specs.Filling.{Assigned, fill}
use Rattle.wt_matching.specs.Matching.{IsMatch}
use Rattle.wt_matching.specs.Nodes.{put}

-- the plan with the destination, filled in, at the node
abbrev pub made_by : PairTree → PlanTree → ℕ → Assigned → PlanTree
made_by p plan n m = put plan n (fill p.dest p.anchors m)

-- the plan that the rule's match at the node makes, and none exactly where it has no match there
abbrev pub GivesAt : List Table → PairTree → AtomSet → PlanTree → ℕ → Option Plan → Type 0
GivesAt S p set plan n None = (m : Assigned) → IsMatch S p set plan n m → ⊥
GivesAt S p set plan n (Some made) = (m : Assigned) × IsMatch S p set plan n m × (plan_tree made ≡ made_by p plan n m)
