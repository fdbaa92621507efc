-- The first match that was found, applied, is one step along the chain.
use Rattle.std.proofs.Common.{◌≡◌, ◌<◌, List, [], ◌∷◌, ◌++◌, append_assoc, sym, ap, ◌∙◌, subst}
use Rattle.wt_schema.specs.declared.schema.Table.{Table}
use Rattle.wt_schema.specs.Lawful.{IsSchema}
use Rattle.wt_rule.specs.declared.Rule.{Rule}
use Rattle.wt_plan.specs.Tree.{PlanTree, plan_tree}
use Rattle.wt_plan.specs.Measures.{cost}
use Rattle.wt_plan.specs.WellFormed.{PlacesFit}
use Rattle.wt_plan.specs.Regular.{Regular}
use Rattle.wt_place.specs.Placing.{placed}
use Rattle.wt_place.specs.Keeping.{ConditionsFit}
use Rattle.wt_place.proofs.Fitting.{conditions_fit}
use Rattle.wt_place.proofs.Regularity.{regular_placed}
use Rattle.wt_chains.specs.declared.applied.Applied.{Applied}
use Rattle.wt_chains.specs.Chains.{AreLawful, IsChain, goes}
use Rattle.wt_chains.proofs.Chained.{cheaper}
use Rattle.wt_rewrite.specs.declared.first.Hit.{Hit}
use Rattle.wt_rewrite.specs.declared.rewriting.Rewritten.{Rewritten}
use Rattle.wt_rewrite.specs.Search.{step_of, IsFirstHit}
use Rattle.wt_rewrite.specs.Going.{HasGoneOn}

module _ (S : List Table) (rules : List Rule) where
  pub hit_fits : (plan : PlanTree) (h : Hit) → IsFirstHit S rules plan h → ConditionsFit (plan_tree h.plan)
  hit_fits plan h f = conditions_fit (plan_tree h.plan) (subst PlacesFit (sym f.made) f.first.is.matches.regular.well_formed.places)

  pub gone : (before after : Rewritten) (h : Hit) → IsFirstHit S rules (plan_tree before.plan) h → plan_tree after.plan ≡ placed (plan_tree h.plan) →
      after.trace.items ≡ before.trace.items ++ step_of h.node h.rule ∷ [] → HasGoneOn S rules before after
  gone before after h f e t = record { step = step_of h.node h.rule; found = f.found; first = f.first; plan = e ∙ ap placed f.made; trace = t }

  module _ (before after : Rewritten) (g : HasGoneOn S rules before after) where
    pub gone_regular : Regular S (plan_tree after.plan)
    gone_regular = subst (Regular S) (sym g.plan) (regular_placed S _ g.first.is.matches.regular)

    pub gone_cheaper : IsSchema S → AreLawful rules → Regular S (plan_tree before.plan) → cost (plan_tree after.plan) < cost (plan_tree before.plan)
    gone_cheaper schema lawful regular =
        subst (λ z. cost z < cost (plan_tree before.plan)) (sym g.plan) (cheaper S schema rules lawful (plan_tree before.plan) regular g.step g.found g.first.is)

    pub chain_goes : (start : PlanTree) →
        ((rest : List Applied) (end : PlanTree) → IsChain S rules (plan_tree before.plan) rest end → IsChain S rules start (before.trace.items ++ rest) end) →
        (rest : List Applied) (end : PlanTree) → IsChain S rules (plan_tree after.plan) rest end → IsChain S rules start (after.trace.items ++ rest) end
    chain_goes start so_far rest end c =
        let moved = subst (λ z. IsChain S rules z rest end) g.plan c in
        let whole = so_far (g.step ∷ rest) end (goes g.step g.found g.first moved) in
        subst (λ (l : List Applied). IsChain S rules start l end) (sym (ap (λ (t : List Applied). t ++ rest) g.trace ∙ append_assoc before.trace.items (g.step ∷ []) rest)) whole
