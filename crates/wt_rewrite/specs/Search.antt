-- The search for the first match: at one node, and at the nodes of a subplan, which are numbered one after the other. Private contracts alone cite this file.
use Rattle.std.specs.Prelude.{◌≡◌, ℕ, ◌+◌, ◌<◌, ◌≤◌, List, slice_get, Some}
use Rattle.wt_schema.specs.declared.schema.Table.{Table}
use Rattle.wt_symbol.specs.Sides.{tree_of, pair_of}
use Rattle.wt_rule.specs.declared.Rule.{Rule}
use Rattle.wt_plan.specs.Tree.{PlanTree, plan_tree}
use Rattle.wt_matching.specs.Filling.{Assigned}
use Rattle.wt_matching.specs.Nodes.{at}
use Rattle.wt_matching.specs.Finding.{Maybe, Found, found}
use Rattle.wt_match.specs.Matched.{made_by}
use Rattle.wt_chains.specs.declared.applied.Applied.{Applied}
use Rattle.wt_chains.specs.Chains.{IsStep, ComesBefore, IsFirst}
use Rattle.wt_rewrite.specs.declared.first.Hit.{Hit}

-- the step of a node and a rule
abbrev pub step_of : ℕ → ℕ → Applied
step_of node rule = record { node = node; rule = rule }

-- a match, with the plan that it makes
pub record IsHit (S : List Table) (rules : List Rule) (plan : PlanTree) (h : Hit) : Type 0 where
  pub found : Assigned
  pub is : IsStep S rules plan (step_of h.node h.rule) found
  pub made : plan_tree h.plan ≡ made_by (pair_of is.rule.pair) plan h.node found

-- no rule matches at the node
pub record HasNoneAt (S : List Table) (rules : List Rule) (plan : PlanTree) (node : ℕ) : Type 0 where
  pub none : (k : ℕ) (m : Assigned) → IsStep S rules plan (step_of node k) m → ⊥

-- no rule matches at so many nodes from this one on
pub record HasNoneIn (S : List Table) (rules : List Rule) (plan : PlanTree) (from count : ℕ) : Type 0 where
  pub none : (step : Applied) (m : Assigned) → from ≤ step.node → step.node < from + count → IsStep S rules plan step m → ⊥

-- a match, and none before it from this node on
pub record IsFirstIn (S : List Table) (rules : List Rule) (plan : PlanTree) (from : ℕ) (h : Hit) : Type 0 where
  pub hit : IsHit S rules plan h
  pub first : (other : Applied) (m : Assigned) → from ≤ other.node → ComesBefore other (step_of h.node h.rule) → IsStep S rules plan other m → ⊥

-- the first match
pub record IsFirstHit (S : List Table) (rules : List Rule) (plan : PlanTree) (h : Hit) : Type 0 where
  pub found : Assigned
  pub first : IsFirst S rules plan (step_of h.node h.rule) found
  pub made : plan_tree h.plan ≡ made_by (pair_of first.is.rule.pair) plan h.node found

-- the walk of the source of the rule of this number and of the subplan at the node
abbrev pub HasWalked : List Rule → PlanTree → ℕ → ℕ → Maybe Found → Type 0
HasWalked rules plan node start x = (r : Rule) → slice_get rules start ≡ Some r → found (tree_of r.pair.source) r.pair.anchors (at plan node) ≡ x

-- no rule from this number on and before that one matches at the node
pub record HasNoneFrom (S : List Table) (rules : List Rule) (plan : PlanTree) (node start end : ℕ) : Type 0 where
  pub none : (k : ℕ) (m : Assigned) → start ≤ k → k < end → IsStep S rules plan (step_of node k) m → ⊥

-- the match at the node of the first rule from this number on that has one
pub record IsFirstOf (S : List Table) (rules : List Rule) (plan : PlanTree) (node start : ℕ) (h : Hit) : Type 0 where
  pub hit : IsHit S rules plan h
  pub here : h.node ≡ node
  pub earlier : (k : ℕ) (m : Assigned) → start ≤ k → k < h.rule → IsStep S rules plan (step_of node k) m → ⊥
