-- Chains of plans under the rules of a list.
use Rattle.std.specs.Prelude.{◌≡◌, ℕ, ◌<◌, ◌⊎◌, List, [], ◌∷◌, Some, slice_get}
use Rattle.wt_bag.specs.Bags.{Each}
use Rattle.wt_schema.specs.declared.schema.Table.{Table}
use Rattle.wt_symbol.specs.Sides.{PairTree, pair_of}
use Rattle.wt_symbol.specs.Lawful.{IsLawful}
use Rattle.wt_rule.specs.declared.Rule.{Rule}
use Rattle.wt_plan.specs.Tree.{PlanTree}
use Rattle.wt_plan.specs.Measures.{node_count}
use Rattle.wt_place.specs.Placing.{placed}
use Rattle.wt_matching.specs.Filling.{Assigned, fill}
use Rattle.wt_matching.specs.Nodes.{put}
use Rattle.wt_matching.specs.Matching.{IsMatch, IsSound}
use Rattle.wt_chains.specs.declared.applied.Applied.{Applied}

-- Rules that hold: each pair is lawful, and its two sides are one bag wherever the rule's set is met.
abbrev pub AreLawful : List Rule → Type 0
AreLawful rules = Each (λ (r : Rule). IsLawful (pair_of r.pair)) rules

abbrev pub AreSound : List Rule → Type 0
AreSound rules = Each (λ (r : Rule). IsSound (pair_of r.pair) r.set) rules

-- the rule of this number has a match at this node of the plan, under the assignment
pub record IsStep (S : List Table) (rules : List Rule) (plan : PlanTree) (step : Applied) (m : Assigned) : Type 0 where
  pub rule : Rule
  pub at : slice_get rules step.rule ≡ Some rule
  pub node : step.node < node_count plan
  pub matches : IsMatch S (pair_of rule.pair) rule.set plan step.node m

-- no rule has a match at any node
abbrev pub HasNoMatch : List Table → List Rule → PlanTree → Type 0
HasNoMatch S rules plan = (step : Applied) (m : Assigned) → IsStep S rules plan step m → ⊥

-- at a lesser node, or there by a rule of lesser number
abbrev pub ComesBefore : Applied → Applied → Type 0
ComesBefore a b = (a.node < b.node) ⊎ ((a.node ≡ b.node) × (a.rule < b.rule))

-- a match before which there is no other
pub record IsFirst (S : List Table) (rules : List Rule) (plan : PlanTree) (step : Applied) (m : Assigned) : Type 0 where
  pub is : IsStep S rules plan step m
  pub first : (other : Applied) (x : Assigned) → ComesBefore other step → IsStep S rules plan other x → ⊥

-- the plan with the destination of a match in the place of its source, and each condition placed
abbrev pub made : PairTree → PlanTree → ℕ → Assigned → PlanTree
made p plan node m = placed (put plan node (fill p.dest p.anchors m))

-- From a plan the chain goes on by the first match, and it ends where there is none; the matches are told in order.
pub data IsChain (S : List Table) (rules : List Rule) : PlanTree → List Applied → PlanTree → Type 0 where
  ends : {plan : PlanTree} → HasNoMatch S rules plan → IsChain S rules plan [] plan
  goes : {plan last : PlanTree} {trace : List Applied} (step : Applied) (m : Assigned) (first : IsFirst S rules plan step m)
      → IsChain S rules (made (pair_of first.is.rule.pair) plan step.node m) trace last → IsChain S rules plan (step ∷ trace) last
