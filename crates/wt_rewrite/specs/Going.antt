-- One step along a chain. Private contracts alone cite this file.
use Rattle.std.specs.Prelude.{◌≡◌, List, [], ◌∷◌, ◌++◌}
use Rattle.wt_schema.specs.declared.schema.Table.{Table}
use Rattle.wt_symbol.specs.Sides.{pair_of}
use Rattle.wt_rule.specs.declared.Rule.{Rule}
use Rattle.wt_plan.specs.Tree.{plan_tree}
use Rattle.wt_matching.specs.Filling.{Assigned}
use Rattle.wt_chains.specs.declared.applied.Applied.{Applied}
use Rattle.wt_chains.specs.Chains.{IsFirst, made}
use Rattle.wt_rewrite.specs.declared.rewriting.Rewritten.{Rewritten}

-- the first match was applied, and the trace tells it
pub record HasGoneOn (S : List Table) (rules : List Rule) (before after : Rewritten) : Type 0 where
  pub step : Applied
  pub found : Assigned
  pub first : IsFirst S rules (plan_tree before.plan) step found
  pub plan : plan_tree after.plan ≡ made (pair_of first.is.rule.pair) (plan_tree before.plan) step.node found
  pub trace : after.trace.items ≡ before.trace.items ++ step ∷ []
