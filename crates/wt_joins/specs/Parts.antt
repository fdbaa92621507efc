-- Where the columns of two operands together stand, and what an operand is.
use Rattle.std.specs.Prelude.{ℕ, ◌+◌, ◌<◌, List, ◌++◌, length, map}
use Rattle.std.specs.List.{All}
use Rattle.wt_plan.specs.Tree.{PlanTree, plan_tree}
use Rattle.wt_query_plan.specs.Building.{Conjunct, inner_of, left_of, right_of}
use Rattle.wt_joins.specs.declared.part.Part.{Part}

-- the left operand stands first in the plan's rows
abbrev pub onward : List ℕ → List ℕ → List ℕ
onward lefts rights = lefts ++ map (λ k. length lefts + k) rights

-- the right operand does
abbrev pub backward : List ℕ → List ℕ → List ℕ
backward lefts rights = map (λ k. length rights + k) lefts ++ rights

-- an operand without where its parts lie in memory
pub record PartTree : Type 0 where
  pub plan : PlanTree
  pub places : List ℕ

abbrev pub operand : PlanTree → List ℕ → PartTree
operand plan places = record { plan = plan; places = places }

abbrev pub part_tree : Part → PartTree
part_tree p = operand (plan_tree p.plan) p.places.items

abbrev pub part_trees : List Part → List PartTree
part_trees ps = map part_tree ps

-- two operands under ON, whose conjuncts are over the columns of both in the order of the text
abbrev pub inner_operand : List Conjunct → PartTree → PartTree → PartTree
inner_operand js l r = operand (inner_of (length l.places) l.places r.places (onward l.places r.places) js l.plan r.plan) (onward l.places r.places)

abbrev pub left_operand : List Conjunct → PartTree → PartTree → PartTree
left_operand js l r = operand (left_of (length l.places) l.places r.places js l.plan r.plan) (onward l.places r.places)

abbrev pub right_operand : List Conjunct → PartTree → PartTree → PartTree
right_operand js l r = operand (right_of (length l.places) l.places r.places js l.plan r.plan) (backward l.places r.places)

-- places that are those of a row as long as they are many
abbrev pub Within : List ℕ → Type 0
Within places = All (λ k. k < length places) places
